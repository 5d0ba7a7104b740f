-- One carrier more has its index.
use Rattle.std.proofs.Common.{◌<◌, ◌∙◌, arith, length}
use Rattle.std.proofs.lemmas.List.{length-set}
use Rattle.frame_build.proofs.Cells.{few_carriers}
use Rattle.frame_build.proofs.Indices.{indices_more}
use Rattle.frame_build.proofs.carrier_content.indices.Goals as goal

pub loop-k-preserved : goal.loop-k-preserved
loop-k-preserved g c =
    let inv = c.loop-k.invariant in
    let lt : c.loop-k.k < length c.loop-k.indices = omega (arith, inv.long, few_carriers g.M.Carriers.MODE, g.M.Carriers.k_of, c.K-k-end.ensures) in
    record { long = length-set _ _ _ ∙ inv.long; indices = indices_more _ _ _ _ _ inv.indices lt c.index_at.ensures }
