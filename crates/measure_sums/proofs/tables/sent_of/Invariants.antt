-- The labels so far have their points.
use Rattle.measure_sums.specs.Quick.{AreSent}
use Rattle.measure_sums.proofs.tables.sent_of.Given as goal

abbrev pub invariant-loop-label : goal.invariant-loop-label
invariant-loop-label l = AreSent l.shape l.hierarchy l.label l.all
