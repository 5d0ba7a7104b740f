-- A quotient leaves a remainder below the divisor.
use Rattle.std.proofs.Common.{ℕ, ◌≤◌, ◌<◌, ◌*◌, ◌-◌, arith, subst}
use Rattle.std.proofs.lemmas.Bool.{ltb-true}
use Rattle.cell_equal.proofs.Quotients.{is_share}
use Rattle.cell_equal.proofs.divide.is_quotient.Goals as goal

pub returns : goal.returns
returns c = λ t.
    let p = c.args.power in
    let u = c.args.unit in
    let low : c.from.result * u ≤ p = omega (arith, c.if-part-power.false) in
    let rest : p - c.from.result * u < u = ltb-true (p - c.from.result * u) u t in
    is_share c.args.guess p u (omega (arith, rest)) (subst (λ (z : ℕ). z * u ≤ p) c.from.ensures low) (subst (λ (z : ℕ). p - z * u < u) c.from.ensures rest)
