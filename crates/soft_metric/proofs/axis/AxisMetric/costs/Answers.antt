use Rattle.std.proofs.Common.{◌≡◌, ℕ, ◌/◌, Bool, ◌<◌, List, true, false, sym, ◌∙◌, subst}
use Rattle.std.specs.Prelude.{pos}
use lib.Signed.{le_z}
use Rattle.mode_set.specs.StreamTable.{label_bits}
use Rattle.std.proofs.lemmas.Int.{to_z-of_z}
use mir.Syntax.{w16}
use mir.Val.{to_z, of_z}
use Rattle.mode_set.specs.declared.modes.Shape.{Shape}
use Rattle.mode_set.specs.declared.modes.Hierarchy.{Hierarchy}
use Rattle.soft_metric.specs.Costs.{cost}
use Rattle.soft_metric.specs.Squares.{AreAxisCosts, pair_at}
use Rattle.soft_metric.proofs.Sides.{axis_is, sides, pairs_small}
use Rattle.soft_metric.proofs.axis.AxisMetric.costs.Goals as goal

pub returns-clause-costs : goal.returns-clause-costs
returns-clause-costs c = λ e l.
    let s : Shape = c.self.inside.shape in
    let h : Hierarchy = c.self.inside.hierarchy in
    let same : to_z w16 (of_z w16 c.args.x) ≡ c.args.x = to_z-of_z w16 c.args.x c.ranges.x in
    let here = sym same ∙ sides _ _ c.unsigned_abs.ensures.value in
    let positive : Bool = le_z (pos 0) (to_z w16 (of_z w16 c.args.x)) in
    let k = subst (λ (z : List ℕ). AreAxisCosts z positive c.unsigned_abs.result c.costs_of.result) c.self.invariant c.costs_of.ensures in
    let within : e < label_bits s = subst (λ (p : Shape × Hierarchy). e < label_bits p.0) (sym c.self.view_is) l in
    subst (λ (p : Shape × Hierarchy). pair_at c.costs_of.result (e / 2) ≡ (cost p.0 p.1 c.args.x e false, cost p.0 p.1 c.args.x e true)) c.self.view_is
    (axis_is s h c.args.x _ _ e c.costs_of.result here k within)

pub returns-clause-small : goal.returns-clause-small
returns-clause-small c = pairs_small _ _ _ _ c.costs_of.ensures
