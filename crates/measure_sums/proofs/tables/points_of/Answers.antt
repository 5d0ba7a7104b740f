-- One label more has its point.
use Rattle.std.proofs.Common.{arith}
use Rattle.measure_sums.proofs.Placing.{points_more}
use Rattle.measure_sums.proofs.tables.points_of.Goals as goal

pub loop-label-preserved : goal.loop-label-preserved
loop-label-preserved c = points_more c.args.shape c.args.hierarchy _ _ _ (omega (arith, c.label_count-label-end.ensures.few)) c.loop-label.invariant c.map.ensures
