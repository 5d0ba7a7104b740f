-- One product more.
use Rattle.std.proofs.Common.{rules, ◌≡◌, ◌+◌, ◌*◌, ◌^◌, ◌<◌, ◌≤◌, get_or, refl, ap, sym, ◌∙◌, subst, arith, to_z, of_z, FitsSigned}
use Rattle.std.specs.Prelude.{ℤ, pos, ◌+ℤ◌, ◌*ℤ◌, nat_abs}
use Rattle.std.specs.Int.{w16, w32, w64}
use Rattle.std.proofs.lemmas.Int.{ints}
use Rattle.track_arithmetic.proofs.Products.{held}
use Rattle.track_cells.specs.Sizes.{size_to}
use Rattle.track_cells.specs.Weighed.{weighed_to}
use Rattle.track_cells.proofs.Sums.{size_below}
use Rattle.track_cells.proofs.Weighing.{weighed_none, weighed_more, sum_small}
use Rattle.track_cells.proofs.blocks.weighed_sum.Goals as goal

pub loop-i-init : goal.loop-i-init
loop-i-init c = record { is = sym (weighed_none c.args.row.now c.args.parts.now c.args.n); within = omega arith }

pub plus-sum-requires-clause-sum : goal.plus-sum-requires-clause-sum
plus-sum-requires-clause-sum c =
    let small = size_below c.loop-i.i 58154 c.args.row.now (omega (arith, c.loop-i-test.true)) c.requires.row in
    omega (arith, ints, c.loop-i.invariant.within, small)

pub plus-sum-requires-clause-x : goal.plus-sum-requires-clause-x
plus-sum-requires-clause-x c =
    let v = get_or c.args.row.now c.loop-i.i (pos 0) in
    let fits : FitsSigned w16 v = search rules in
    omega (arith, ints, c.product.ensures.small, fits)

pub loop-i-preserved : goal.loop-i-preserved
loop-i-preserved c =
    let i = c.loop-i.i in
    let n = c.args.n in
    let row = c.args.row.now in
    let parts = c.args.parts.now in
    let v = get_or row i (pos 0) in
    let p = get_or parts (n + i) (pos 0) in
    let inv = c.loop-i.invariant in
    let x = c.product.result in
    let fits : FitsSigned w16 v = search rules in
    let small = c.requires.parts (n + i) (omega (arith, c.requires.place, c.loop-i-test.true)) in
    let same_v : to_z w16 (of_z w16 v) ≡ v = omega (arith, ints, fits) in
    let same_p : to_z w32 (of_z w32 p) ≡ p = omega (arith, ints, small) in
    let is_x : x ≡ v *ℤ p = c.product.ensures.is ∙ ap (λ (z : ℤ). z *ℤ to_z w32 (of_z w32 p)) same_v ∙ ap (λ (z : ℤ). v *ℤ z) same_p in
    let small_x : nat_abs x ≤ nat_abs v * 2 ^ 22 = subst (λ (z : ℤ). nat_abs x ≤ nat_abs z * 2 ^ 22) same_v c.product.ensures.small in
    let held_x : to_z w64 (of_z w64 x) ≡ x = omega (arith, ints, small_x, fits) in
    let sum = to_z w64 c.loop-i.sum-bits in
    let is : c.plus-sum.result ≡ sum +ℤ x = c.plus-sum.ensures ∙ ap (λ (z : ℤ). sum +ℤ z) held_x in
    let small_r : nat_abs c.plus-sum.result ≤ size_to (i + 1) row * 2 ^ 22 = subst (λ (z : ℤ). nat_abs z ≤ size_to (i + 1) row * 2 ^ 22) (sym is) (sum_small i (i + 1) row sum x inv.within small_x refl) in
    let low = size_below (i + 1) 58154 row (omega (arith, c.loop-i-test.true)) c.requires.row in
    let held_r : to_z w64 (of_z w64 c.plus-sum.result) ≡ c.plus-sum.result = held c.plus-sum.result (omega (arith, small_r, low)) in
    record {
      is = held_r ∙ is ∙ ap (λ (z : ℤ). z +ℤ x) inv.is ∙ ap (λ (z : ℤ). weighed_to i row parts n +ℤ z) is_x ∙ sym (weighed_more i row parts n);
      within = subst (λ (z : ℤ). nat_abs z ≤ size_to (i + 1) row * 2 ^ 22) (sym held_r) small_r;
    }
