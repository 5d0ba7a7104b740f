-- One factor more.
use Rattle.std.proofs.Common.{rules, ◌≡◌, ℕ, ◌*◌, ◌^◌, ◌<◌, ◌≤◌, length, get_or, ap, sym, ◌∙◌, subst, arith, to_z, of_z, FitsSigned}
use Rattle.std.specs.Prelude.{ℤ, pos, nat_abs}
use Rattle.std.specs.Int.{w16, w64}
use Rattle.std.proofs.lemmas.Int.{ints}
use Rattle.std.proofs.lemmas.List.{length-set}
use Rattle.tracking.specs.InTime.{place}
use Rattle.track_motion.proofs.Steps.{set_below}
use Rattle.track_arithmetic.specs.Laws.{IsWithin}
use Rattle.track_arithmetic.specs.Numbers.{nothing, scaled}
use Rattle.track_arithmetic.specs.declared.complex.Complex.{Complex}
use Rattle.track_comb_gains.proofs.gains.factors_at.Goals as goal

pub loop-i-preserved : goal.loop-i-preserved
loop-i-preserved c =
    let i = c.loop-i.i in
    let old = c.loop-i.factors in
    let inv = c.loop-i.invariant in
    let x = c.scaled.result in
    let v = get_or c.args.taps.now i (pos 0) in
    let u = get_or c.args.around.now.turns (place c.args.d i) nothing in
    let fits : FitsSigned w16 v = search rules in
    let n : to_z w64 (of_z w64 c.from.result) ≡ v = omega (arith, ints, c.from.ensures, fits) in
    let few : i < length old = omega (arith, c.loop-i-test.true, inv.long) in
    let place_small : place c.args.d i < 16 = omega (arith, c.loop-i-test.true, c.requires.distance) in
    let least : nat_abs (to_z w64 (of_z w64 c.from.result)) ≤ nat_abs v = subst (λ (z : ℤ). nat_abs z ≤ nat_abs v) (sym n) (omega arith) in
    let is : x ≡ scaled v u = c.scaled.ensures.is ∙ ap (λ (z : ℤ). scaled z u) n in
    let small : IsWithin (nat_abs v * 2 ^ 14) x = c.scaled.ensures.within (2 ^ 14) (nat_abs v) (c.requires.turns (place c.args.d i) place_small) least in
    record {
      long = length-set old i x ∙ inv.long;
      are = set_below (λ (k : ℕ) (z : Complex). z ≡ scaled (get_or c.args.taps.now k (pos 0)) (get_or c.args.around.now.turns (place c.args.d k) nothing)) nothing old i x few inv.are is;
      within = set_below (λ (k : ℕ) (z : Complex). IsWithin (nat_abs (get_or c.args.taps.now k (pos 0)) * 2 ^ 14) z) nothing old i x few inv.within small;
    }
