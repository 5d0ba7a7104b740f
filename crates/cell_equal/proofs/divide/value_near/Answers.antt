-- The code's quotient is the definition's.
use Rattle.std.proofs.Common.{◌≡◌, ◌∙◌, ap, arith, to_z, of_z}
use Rattle.std.specs.Prelude.{ℤ}
use Rattle.std.specs.Int.{w16, w64}
use Rattle.std.proofs.lemmas.Int.{ints}
use Rattle.cell_equal.specs.Equal.{nearest}
use Rattle.cell_equal.proofs.Quotients.{held}
use Rattle.cell_equal.proofs.divide.value_near.Goals as goal

pub returns : goal.returns
returns c =
    let back : to_z w16 (of_z w16 (to_z w64 (of_z w64 c.clamp.result))) ≡ c.clamp.result = omega (arith, ints, c.clamp.ensures.lower_bound, c.clamp.ensures.upper_bound) in
    let same : to_z w64 (of_z w64 c.nearest.result) ≡ c.nearest.result = omega (arith, ints) in
    let given : to_z w64 (of_z w64 c.args.x) ≡ c.args.x = omega (arith, ints) in
    let near = c.nearest.ensures c.args.n (omega (arith, ints)) in
    back ∙ held c.args.x _ c.clamp.result c.args.n (same ∙ near ∙ ap (λ (z : ℤ). nearest z c.args.n) given) c.clamp.ensures.value
