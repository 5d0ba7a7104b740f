use Rattle.std.proofs.Common.{arith, ap, sym, ◌∙◌, ◌+◌, ◌-◌, ◌*◌, ◌≡◌, ◌++◌, length, length-append}
use Rattle.spec_words.specs.Bits.{spelled}
use Rattle.bit_pack.specs.Queue.{ring}
use Rattle.bit_pack.proofs.Spelling.{length_queue, queue_push}
use Rattle.bit_pack.proofs.bit_buf.BitBuf.push_byte.Goals as goal

pub push_whole-requires-clause-room : goal.push_whole-requires-clause-room
push_whole-requires-clause-room g c =
    let old : length c.args.self.now ≡ c.self.inside.front_len + 8 * c.self.inside.count + c.self.inside.back_len = sym (ap length c.self.view_is) ∙ length_queue c.self.inside.bytes c.self.inside.first c.self.inside.count c.self.inside.front c.self.inside.front_len c.self.inside.back c.self.inside.back_len (omega (arith, c.self.told, c.self.invariant.first_within)) (omega (arith, c.self.told, c.self.invariant.within)) in
    omega (arith, old, c.requires.room, c.self.told)

pub invariant_of-self : goal.invariant_of-self
invariant_of-self g c =
    let old : length c.args.self.now ≡ c.self.inside.front_len + 8 * c.self.inside.count + c.self.inside.back_len = sym (ap length c.self.view_is) ∙ length_queue c.self.inside.bytes c.self.inside.first c.self.inside.count c.self.inside.front c.self.inside.front_len c.self.inside.back c.self.inside.back_len (omega (arith, c.self.told, c.self.invariant.first_within)) (omega (arith, c.self.told, c.self.invariant.within)) in
    record {
      few = c.self.invariant.few;
      first_within = c.self.invariant.first_within;
      front_short = c.self.invariant.front_short;
      back_short = c.self.invariant.back_short;
      within = omega (arith, old, c.requires.room);
    }

bits : goal.returns-clause-bits
bits g c =
    let n : c.self.inside.back_len + 8 - 8 ≡ c.self.inside.back_len = omega arith in
    queue_push (spelled c.self.inside.front_len c.self.inside.front) (spelled 8 c.args.byte) (ring c.self.inside.bytes c.self.inside.first c.self.inside.count) _ c.self.inside.back c.first_eight-whole.result c.args.byte c.self.inside.back_len c.self.inside.back_len c.push_whole.ensures.pushed
    (ap (λ k. spelled 8 c.first_eight-whole.result ++ spelled k c.args.byte) (sym n) ∙ c.first_eight-whole.ensures)
    ∙ ap (λ z. z ++ spelled 8 c.args.byte) c.self.view_is

pub returns-clause-bits : goal.returns-clause-bits
returns-clause-bits g c = bits g c

pub returns-clause-amount : goal.returns-clause-amount
returns-clause-amount g c = ap length (bits g c) ∙ length-append c.args.self.now (spelled 8 c.args.byte)
