use Rattle.std.proofs.Common.{◌∙◌, ◌∷◌, [], ◌++◌, ap, sym, arith, false}
use Rattle.std.specs.Prelude.{slice_index_or}
use Rattle.std.proofs.lemmas.List.{take_more}
use Rattle.survivor_ring.proofs.Bytes.{spelled_more}
use Rattle.survivor_ring.proofs.bits.byte_of.Goals as goal

pub loop-k-preserved : goal.loop-k-preserved
loop-k-preserved c =
    let bit = slice_index_or c.args.bits.now c.loop-k.k false in
    spelled_more c.loop-k.k c.loop-k.byte bit (omega (arith, c.loop-k-test.true)) ∙ ap (λ z. z ++ bit ∷ []) c.loop-k.invariant ∙ sym (take_more c.args.bits.now c.loop-k.k false (omega (arith, c.loop-k-test.true, c.requires)))
