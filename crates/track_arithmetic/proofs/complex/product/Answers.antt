-- The product fits.
use Rattle.std.proofs.Common.{◌≡◌, ◌*◌, ◌^◌, ◌≤◌, ◌∙◌, sym, subst, ap, arith, to_z, of_z, nat_abs}
use Rattle.std.specs.Prelude.{ℤ, ◌*ℤ◌}
use Rattle.std.specs.Int.{w64}
use Rattle.track_arithmetic.proofs.Products.{held, product_below}
use Rattle.track_arithmetic.proofs.complex.product.Goals as goal

pub returns-clause-is : goal.returns-clause-is
returns-clause-is c =
    let all : nat_abs (c.args.x *ℤ c.args.part) ≤ 2 ^ 61 = product_below c.args.x c.args.part (2 ^ 46) (2 ^ 15) c.requires.x c.requires.part in
    let x = held c.args.x (omega (arith, c.requires.x)) in
    let part = held c.args.part (omega (arith, c.requires.part)) in
    ap (λ (z : ℤ). to_z w64 (of_z w64 (z *ℤ to_z w64 (of_z w64 c.args.part)))) x ∙ ap (λ (z : ℤ). to_z w64 (of_z w64 (c.args.x *ℤ z))) part ∙ held (c.args.x *ℤ c.args.part) (omega (arith, all))

pub returns-clause-small : goal.returns-clause-small
returns-clause-small c =
    let all : nat_abs (c.args.x *ℤ c.args.part) ≤ 2 ^ 61 = product_below c.args.x c.args.part (2 ^ 46) (2 ^ 15) c.requires.x c.requires.part in
    subst (λ (z : ℤ). nat_abs z ≤ 2 ^ 61) (sym (returns-clause-is c)) all
