use Rattle.std.proofs.Common.{◌≡◌, ◌+◌, ◌-◌, ◌∙◌, ◌++◌, ap, sym, arith, length-set, slice_index_or}
use Rattle.spec_words.specs.Bits.{spelled}
use Rattle.bit_pack.proofs.Spelling.{shifted_more}
use Rattle.bit_pack.proofs.bit_buf.shift_part.Goals as goal

pub loop-k-preserved : goal.loop-k-preserved
loop-k-preserved c =
    let n : c.args.back_len + 8 - 8 ≡ c.args.back_len = omega arith in
    let byte = slice_index_or c.args.part.now c.loop-k.k 0 in
    record {
      size = length-set c.loop-k.to c.loop-k.k c.first_eight.result ∙ c.loop-k.invariant.size;
      bits = shifted_more (spelled c.args.back_len c.args.back) c.args.part.now c.loop-k.to c.loop-k.last c.first_eight.result c.args.back_len c.loop-k.k (omega (arith, c.loop-k-test.true)) c.loop-k.invariant.size c.loop-k.invariant.bits
          (ap (λ z. spelled 8 c.first_eight.result ++ spelled z byte) (sym n) ∙ c.first_eight.ensures);
    }
