-- The sums are those of the constellation.
use Rattle.std.proofs.Common.{◌∙◌, ap}
use Rattle.mode_set.specs.declared.modes.Shape.{Shape}
use Rattle.mode_set.specs.declared.modes.Hierarchy.{Hierarchy}
use Rattle.measure_sums.specs.Tables.{counted_sums, plus}
use Rattle.measure_sums.proofs.table.PointTable.add_far.Goals as goal

pub returns-clause-is : goal.returns-clause-is
returns-clause-is c = c.add.ensures.is ∙ ap (plus c.args.sums.now) (c.counted.ensures.is ∙ ap (λ (z : Shape × Hierarchy). counted_sums z.0 z.1 c.args.label c.args.received) c.self.view_is)
