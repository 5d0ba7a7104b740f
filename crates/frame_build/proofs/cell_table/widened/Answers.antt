-- One cell more is in eight bytes.
use Rattle.std.proofs.Common.{◌<◌, ◌∙◌, refl, arith, length}
use Rattle.std.proofs.lemmas.List.{length-set}
use Rattle.frame_build.proofs.Indices.{wider_more}
use Rattle.frame_build.proofs.cell_table.widened.Goals as goal

pub loop-place-preserved : goal.loop-place-preserved
loop-place-preserved c =
    let inv = c.loop-place.invariant in
    let lt : c.loop-place.place < length c.loop-place.wide = omega (arith, inv.long) in
    record { long = length-set _ _ _ ∙ inv.long; wider = wider_more _ _ _ _ _ inv.wider lt c.eight_of.ensures refl }
