-- A cell that is near to the point of its label has no wrong bit.
use Rattle.std.proofs.Common.{◌∙◌, ap, subst}
use Rattle.mode_set.specs.declared.modes.Shape.{Shape}
use Rattle.mode_set.specs.declared.modes.Hierarchy.{Hierarchy}
use Rattle.measure_sums.specs.Quick.{IsPointTable}
use Rattle.measure_sums.specs.Tables.{plus}
use Rattle.measure_sums.proofs.Sending.{near_is}
use Rattle.measure_sums.proofs.table.PointTable.add_counted.Goals as goal

pub returns-then-error-self-clause-is : goal.returns-then-error-self-clause-is
returns-then-error-self-clause-is c =
    let v : Shape × Hierarchy = c.args.self.now in
    let kept : IsPointTable v.0 v.1 c.self.inside.sent c.self.inside.hp_bits c.self.inside.lp_bits c.self.inside.safe =
    subst (λ (z : Shape × Hierarchy). IsPointTable z.0 z.1 c.self.inside.sent c.self.inside.hp_bits c.self.inside.lp_bits c.self.inside.safe) c.self.view_is c.self.invariant in
    c.add_right.ensures.is
    ∙ ap (plus c.args.sums.now)
    (near_is v.0 v.1 c.self.inside.sent c.self.inside.hp_bits c.self.inside.lp_bits c.self.inside.safe c.args.label c.error-error.result c.args.received _ kept c.requires.label c.error-error.ensures.is c.if-error-self.true)
