use Rattle.std.proofs.Common.{◌≤◌, ◌*◌, ◌∷◌, [], ◌++◌, ◌∙◌, sym, ap, subst, List, ℕ, Bool, length, arith}
use Rattle.puncture.specs.SentBits.{path_of}
use Rattle.outer_chain.specs.Bits.{bytes_of}
use Rattle.forney.specs.Values.{stream_of}
use Rattle.cmd_packets.specs.InnerBytes.{inner_bytes}
use Rattle.cmd_packets.specs.Inner.{InnerState, IsAfter, rest_of}
use Rattle.cmd_packets.proofs.WholeBytes.{all_gives, all_rest, behind}
use Rattle.cmd_packets.proofs.SentOfBytes.{at_longer, stands, at_end, waits, whole}
use Rattle.cmd_packets.proofs.inner_bytes.InnerBytes.push.Goals as goal

pub returns-clause-after : goal.returns-clause-after
returns-clause-after c = λ r bytes old.
    let order = c.steps_send_in_order.ensures in
    let numbered = c.steps_are_numbered.ensures in
    let runs = c.sent_bits_are_runs.ensures in
    let before = subst (λ (s : InnerState). IsAfter s r bytes) (sym c.self.view_is) old in
    let byte = c.args.byte in
    let at = at_longer order numbered runs r bytes byte c.self.inside.coder before.at in
    let next = stands order numbered runs r bytes byte c.bytes_are_paths.ensures in
    let path = path_of (stream_of (bytes ++ byte ∷ [])) in
    let few : length c.take_one-2.new.waiting ≤ 7 = omega (arith, c.take_one-2.ensures.few, c.take_one.ensures.few, c.push_byte_in_word.ensures.few, c.self.invariant) in
    record {
      at = at_end order numbered runs r bytes byte c.push_byte_in_word.new.self (c.push_byte_in_word.ensures.next r path (8 * length bytes) at next);
      waiting =
          all_rest c.push_byte_in_word.new.to c.take_one-2.new.waiting few (c.take_one-2.ensures.rest ∙ c.take_one.ensures.rest)
          ∙ ap rest_of (c.push_byte_in_word.ensures.sent r path (8 * length bytes) at next)
          ∙ waits order numbered runs r bytes byte c.self.inside.waiting before.waiting;
    }

pub returns-clause-gives : goal.returns-clause-gives
returns-clause-gives c = λ r bytes first old is.
    let order = c.steps_send_in_order.ensures in
    let numbered = c.steps_are_numbered.ensures in
    let runs = c.sent_bits_are_runs.ensures in
    let before = subst (λ (s : InnerState). IsAfter s r bytes) (sym c.self.view_is) old in
    let byte = c.args.byte in
    let at = at_longer order numbered runs r bytes byte c.self.inside.coder before.at in
    let next = stands order numbered runs r bytes byte c.bytes_are_paths.ensures in
    let path = path_of (stream_of (bytes ++ byte ∷ [])) in
    let few : length c.take_one-2.new.waiting ≤ 7 = omega (arith, c.take_one-2.ensures.few, c.take_one.ensures.few, c.push_byte_in_word.ensures.few, c.self.invariant) in
    let taken = all_gives c.args.piece.now.items c.take_one-2.new.piece.items c.push_byte_in_word.new.to c.take_one-2.new.waiting few (c.take_one-2.ensures.gives ∙ c.take_one.ensures.gives) in
    let more = whole order numbered runs r bytes byte c.self.inside.waiting before.waiting ∙ ap (λ (l : List Bool). inner_bytes r bytes ++ bytes_of l) (sym (c.push_byte_in_word.ensures.sent r path (8 * length bytes) at next)) in
    behind first c.args.piece.now.items (bytes_of c.push_byte_in_word.new.to) _ _ is more ∙ ap (λ (l : List ℕ). first ++ l) (sym taken)
