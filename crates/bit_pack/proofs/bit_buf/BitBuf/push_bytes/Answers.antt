use Rattle.std.proofs.Common.{arith, ap, sym, ◌∙◌, ◌≡◌, ◌+◌, ◌*◌, ◌++◌, length, length-append}
use Rattle.bit_pack.specs.Queue.{bits_of_bytes}
use Rattle.bit_pack.proofs.Spelling.{length_queue, length-bits, queue_paste}
use Rattle.bit_pack.proofs.bit_buf.BitBuf.push_bytes.Goals as goal

pub invariant_of-self : goal.invariant_of-self
invariant_of-self g c =
    let old : length c.args.self.now ≡ c.self.inside.front_len + 8 * c.self.inside.count + c.self.inside.back_len = sym (ap length c.self.view_is) ∙ length_queue c.self.inside.bytes c.self.inside.first c.self.inside.count c.self.inside.front c.self.inside.front_len c.self.inside.back c.self.inside.back_len (omega (arith, c.self.told, c.self.invariant.first_within)) (omega (arith, c.self.told, c.self.invariant.within)) in
    record {
      few = c.self.invariant.few;
      first_within = c.self.invariant.first_within;
      front_short = c.self.invariant.front_short;
      back_short = c.self.invariant.back_short;
      within = omega (arith, old, c.requires.room);
    }

bits : goal.returns-then-self-bytes-clause-bits
bits g c =
    let i = c.self.inside in
    queue_paste i.bytes c.paste_part.new.bytes c.args.bytes.now i.first i.count (i.count + length c.args.bytes.now) i.front i.front_len i.back i.back_len (omega (arith, c.if-self-eq0.true)) c.paste_part.ensures.pushed
    ∙ ap (λ z. z ++ bits_of_bytes c.args.bytes.now) c.self.view_is

pub returns-then-self-bytes-clause-bits : goal.returns-then-self-bytes-clause-bits
returns-then-self-bytes-clause-bits g c = bits g c

pub returns-then-self-bytes-clause-amount : goal.returns-then-self-bytes-clause-amount
returns-then-self-bytes-clause-amount g c = ap length (bits g c) ∙ length-append c.args.self.now (bits_of_bytes c.args.bytes.now) ∙ ap (λ z. length c.args.self.now + z) (length-bits c.args.bytes.now)

pub returns-else-self-eq0-clause-amount : goal.returns-else-self-eq0-clause-amount
returns-else-self-eq0-clause-amount g c = ap length c.push_shifted.ensures ∙ length-append c.args.self.now (bits_of_bytes c.args.bytes.now) ∙ ap (λ z. length c.args.self.now + z) (length-bits c.args.bytes.now)
