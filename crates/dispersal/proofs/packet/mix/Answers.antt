use Rattle.std.proofs.Common.{◌≡◌, ◌+◌, ℕ, List, ◌∙◌, ap, arith, slice_index_or}
use Rattle.dispersal.specs.Sequence.{sequence_byte}
use Rattle.dispersal.proofs.Mixed.{mixed_here, mixed_more}
use Rattle.std.proofs.Math.Numerals.{add-one}
use Rattle.dispersal.proofs.packet.mix.Goals as goal

pub loop-i-preserved : goal.loop-i-preserved
loop-i-preserved c =
    let xs = c.args.bytes.now in
    let i = c.loop-i.i in
    let start = c.args.start in
    let here : slice_index_or c.loop-i.bytes i 0 ≡ slice_index_or xs i 0 = ap (λ (l : List ℕ). slice_index_or l i 0) c.loop-i.invariant ∙ mixed_here xs i start in
    let byte : slice_index_or c.masks_from-masks.result.now i 0 ≡ sequence_byte (start + i) = c.masks_from-masks.ensures.bytes i (omega arith) in
    let more = mixed_more xs i start (omega arith) in
    rw (here, byte, c.loop-i.invariant, add-one) more
