-- The size of the product.
use Rattle.std.proofs.Common.{◌≡◌, ◌*◌, ◌^◌, ◌≤◌, ap, sym, ◌∙◌, subst, arith, to_z, of_z}
use Rattle.std.specs.Prelude.{ℤ, ◌*ℤ◌, nat_abs}
use Rattle.std.specs.Int.{w64}
use Rattle.std.proofs.lemmas.Int.{ints}
use Rattle.track_arithmetic.proofs.Products.{held, product_below}
use Rattle.track_cells.proofs.blocks.product.Goals as goal

pub returns-clause-small : goal.returns-clause-small
returns-clause-small c =
    let part = c.args.part in
    let k = c.args.coefficient in
    let a : to_z w64 (of_z w64 c.from.result) ≡ part = omega (arith, ints, c.from.ensures, c.requires) in
    let b : to_z w64 (of_z w64 c.from-2.result) ≡ k = omega (arith, ints, c.from-2.ensures) in
    let few : nat_abs k ≤ 2 ^ 15 = omega (arith, ints) in
    let most : nat_abs (part *ℤ k) ≤ 2 ^ 22 * 2 ^ 15 = product_below part k (2 ^ 22) (2 ^ 15) c.requires few in
    let all : nat_abs (part *ℤ k) ≤ 2 ^ 22 * nat_abs k = product_below part k (2 ^ 22) (nat_abs k) c.requires (omega arith) in
    let same : to_z w64 (of_z w64 (to_z w64 (of_z w64 c.from.result) *ℤ to_z w64 (of_z w64 c.from-2.result))) ≡ part *ℤ k =
    ap (λ (z : ℤ). to_z w64 (of_z w64 (z *ℤ to_z w64 (of_z w64 c.from-2.result)))) a ∙ ap (λ (z : ℤ). to_z w64 (of_z w64 (part *ℤ z))) b ∙ held (part *ℤ k) (omega (arith, most)) in
    subst (λ (z : ℤ). nat_abs z ≤ nat_abs k * 2 ^ 22) (sym same) (omega (arith, all))
