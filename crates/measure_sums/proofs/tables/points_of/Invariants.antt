-- The labels so far have their points.
use Rattle.measure_sums.specs.Tables.{ArePoints}
use Rattle.measure_sums.proofs.tables.points_of.Given as goal

abbrev pub invariant-loop-label : goal.invariant-loop-label
invariant-loop-label l = ArePoints l.shape l.hierarchy l.label l.points
