-- One sum more.
use Rattle.std.proofs.Common.{◌≡◌, ℕ, ◌+◌, ◌^◌, ◌<◌, ◌≤◌, length, ap, sym, ◌∙◌, subst, arith, to_z, of_z}
use Rattle.std.specs.Prelude.{ℤ, pos, ◌+ℤ◌, nat_abs}
use Rattle.std.specs.Int.{w32}
use Rattle.std.proofs.lemmas.Int.{ints}
use Rattle.std.proofs.lemmas.List.{length-set}
use Rattle.track_arithmetic.specs.Numbers.{floor}
use Rattle.track_arithmetic.proofs.Products.{held}
use Rattle.track_cells.specs.Weighed.{weighed}
use Rattle.track_cells.proofs.Placed.{one_placed}
use Rattle.track_cells.proofs.blocks.weighed_row.Goals as goal

pub loop-n-preserved : goal.loop-n-preserved
loop-n-preserved c =
    let n = c.loop-n.n in
    let old = c.loop-n.sums in
    let i = c.loop-n.invariant in
    let small = c.near_sum.ensures.within in
    let x = to_z w32 (of_z w32 c.near_sum.result) in
    let same : x ≡ c.near_sum.result = omega (arith, ints, small) in
    let few : n < length old = omega (arith, c.loop-n-test.true, i.long) in
    record {
      long = length-set old n x ∙ i.long;
      is = one_placed (λ (m : ℕ) (z : ℤ). z ≡ weighed c.args.row.now c.args.parts.now m) (pos 0) old n (n + 1) x few (omega arith) i.is
          (same ∙ c.near_sum.ensures.is ∙ ap (λ (z : ℤ). floor (z +ℤ pos (2 ^ 13)) (2 ^ 14)) (held c.weighed_sum.result (omega (arith, c.weighed_sum.ensures.within)) ∙ c.weighed_sum.ensures.is));
      within = one_placed (λ (m : ℕ) (z : ℤ). nat_abs z ≤ 2 ^ 24) (pos 0) old n (n + 1) x few (omega arith) i.within (subst (λ (z : ℤ). nat_abs z ≤ 2 ^ 24) (sym same) small);
    }
