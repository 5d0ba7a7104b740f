-- One cosine more.
use Rattle.std.proofs.Common.{◌≡◌, ℕ, ◌+◌, ◌*◌, ◌%◌, ◌^◌, ◌<◌, ◌≤◌, length, sym, ◌∙◌, subst, arith, to_z, of_z}
use Rattle.std.specs.Prelude.{ℤ, pos, nat_abs}
use Rattle.std.specs.Int.{w16}
use Rattle.std.proofs.lemmas.Int.{ints}
use Rattle.std.proofs.lemmas.List.{length-set}
use Rattle.track_arithmetic.specs.Numbers.{cosine}
use Rattle.track_cells.proofs.Placed.{one_placed}
use Rattle.track_cells.proofs.turns.cosines_back.Goals as goal

pub loop-j-preserved : goal.loop-j-preserved
loop-j-preserved c =
    let j = c.loop-j.j in
    let old = c.loop-j.back in
    let i = c.loop-j.invariant in
    let small = c.short_cosine.ensures.within in
    let x = to_z w16 (of_z w16 c.short_cosine.result) in
    let same : x ≡ c.short_cosine.result = omega (arith, ints, small) in
    let few : j < length old = omega (arith, c.loop-j-test.true, i.long) in
    record {
      long = length-set old j x ∙ i.long;
      is = one_placed (λ (m : ℕ) (z : ℤ). z ≡ cosine ((63 * ((15 + m) * c.args.slope) + c.args.ahead) % 64)) (pos 0) old j (j + 1) x few (omega arith) i.is (same ∙ c.short_cosine.ensures.is);
      within = one_placed (λ (m : ℕ) (z : ℤ). nat_abs z ≤ 2 ^ 14) (pos 0) old j (j + 1) x few (omega arith) i.within (subst (λ (z : ℤ). nat_abs z ≤ 2 ^ 14) (sym same) small);
    }
