-- One part more.
use Rattle.std.proofs.Common.{◌≡◌, ℕ, ◌+◌, ◌^◌, ◌<◌, ◌≤◌, length, ap, sym, ◌∙◌, subst, arith, to_z, of_z}
use Rattle.std.specs.Prelude.{ℤ, pos, nat_abs}
use Rattle.std.specs.Int.{w32, w64}
use Rattle.std.proofs.lemmas.Int.{ints}
use Rattle.std.proofs.lemmas.List.{length-set}
use Rattle.track_cells.specs.Gains.{gain_of}
use Rattle.track_cells.proofs.Placed.{one_placed}
use Rattle.track_cells.proofs.blocks.imaginary_parts.Goals as goal

pub loop-n-preserved : goal.loop-n-preserved
loop-n-preserved c =
    let n = c.loop-n.n in
    let old = c.loop-n.parts in
    let i = c.loop-n.invariant in
    let x = (gain_of c.args.points.now n).im in
    let small = (c.requires.points n (omega (arith, c.loop-n-test.true, c.requires.long))).im in
    let few : n < length old = omega (arith, c.loop-n-test.true, i.long) in
    let same : to_z w64 (of_z w64 x) ≡ x = omega (arith, ints, small) in
    let part : c.part.result ≡ x = c.part.ensures ∙ same in
    let y = to_z w32 (of_z w32 c.part.result) in
    let is : y ≡ x = ap (λ (z : ℤ). to_z w32 (of_z w32 z)) part ∙ omega (arith, ints, small) in
    record {
      long = length-set old n y ∙ i.long;
      is = one_placed (λ (m : ℕ) (z : ℤ). z ≡ (gain_of c.args.points.now m).im) (pos 0) old n (n + 1) y few (omega arith) i.is is;
      within = one_placed (λ (m : ℕ) (z : ℤ). nat_abs z ≤ 2 ^ 22) (pos 0) old n (n + 1) y few (omega arith) i.within (subst (λ (z : ℤ). nat_abs z ≤ 2 ^ 22) (sym is) small);
    }
