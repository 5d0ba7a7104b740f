use Rattle.std.proofs.Common.{arith, ap, sym, ◌∙◌, ◌+◌, ◌*◌, ◌≡◌, [], ◌∷◌, ◌++◌, length, length-append}
use Rattle.spec_words.specs.Bits.{spelled}
use Rattle.bit_pack.specs.Queue.{ring}
use Rattle.bit_pack.proofs.Spelling.{length_queue, queue_push}
use Rattle.bit_pack.proofs.bit_buf.BitBuf.push_bit.Goals as goal

pub invariant_of-self : goal.invariant_of-self
invariant_of-self g c =
    let old : length c.args.self.now ≡ c.self.inside.front_len + 8 * c.self.inside.count + c.self.inside.back_len = sym (ap length c.self.view_is) ∙ length_queue c.self.inside.bytes c.self.inside.first c.self.inside.count c.self.inside.front c.self.inside.front_len c.self.inside.back c.self.inside.back_len (omega (arith, c.self.told, c.self.invariant.first_within)) (omega (arith, c.self.told, c.self.invariant.within)) in
    record {
      few = c.self.invariant.few;
      first_within = c.self.invariant.first_within;
      front_short = c.self.invariant.front_short;
      back_short = omega arith;
      within = omega (arith, old, c.requires.room);
    }

pub invariant_of-self-else-self-lt7 : goal.invariant_of-self-else-self-lt7
invariant_of-self-else-self-lt7 g c =
    let old : length c.args.self.now ≡ c.self.inside.front_len + 8 * c.self.inside.count + c.self.inside.back_len = sym (ap length c.self.view_is) ∙ length_queue c.self.inside.bytes c.self.inside.first c.self.inside.count c.self.inside.front c.self.inside.front_len c.self.inside.back c.self.inside.back_len (omega (arith, c.self.told, c.self.invariant.first_within)) (omega (arith, c.self.told, c.self.invariant.within)) in
    record {
      few = c.self.invariant.few;
      first_within = c.self.invariant.first_within;
      front_short = c.self.invariant.front_short;
      back_short = omega arith;
      within = omega (arith, old, c.requires.room);
    }

bits : goal.returns-else-self-lt7-clause-bits
bits g c =
    let n : c.self.inside.back_len ≡ 7 = omega (arith, c.self.invariant.back_short) in
    queue_push (spelled c.self.inside.front_len c.self.inside.front) (c.args.bit ∷ []) (ring c.self.inside.bytes c.self.inside.first c.self.inside.count) _ c.self.inside.back c.with_bit-byte.result c.with_bit-byte.result c.self.inside.back_len 0 c.push_whole.ensures.pushed
    (c.with_bit-byte.ensures 7 (omega arith) ∙ ap (λ k. spelled k c.self.inside.back ++ c.args.bit ∷ []) (sym n))
    ∙ ap (λ z. z ++ c.args.bit ∷ []) c.self.view_is

pub returns-else-self-lt7-clause-bits : goal.returns-else-self-lt7-clause-bits
returns-else-self-lt7-clause-bits g c = bits g c

pub returns-else-self-lt7-clause-amount : goal.returns-else-self-lt7-clause-amount
returns-else-self-lt7-clause-amount g c = ap length (bits g c) ∙ length-append c.args.self.now (c.args.bit ∷ [])
