-- One product more.
use Rattle.std.proofs.Common.{rules, ◌≡◌, ℕ, ◌+◌, ◌*◌, ◌^◌, ◌<◌, ◌≤◌, List, get_or, refl, ap, sym, ◌∙◌, subst, arith, to_z, of_z, FitsSigned}
use Rattle.std.specs.Prelude.{ℤ, pos, nat_abs}
use Rattle.std.specs.Int.{w16, w64}
use Rattle.std.proofs.lemmas.Int.{ints}
use Rattle.spec_words.specs.Words.{numbers}
use Rattle.track_arithmetic.specs.Laws.{IsWithin}
use Rattle.track_arithmetic.specs.Numbers.{plus, scaled, sum_of}
use Rattle.track_arithmetic.specs.declared.complex.Complex.{Complex}
use Rattle.track_cells.specs.Gains.{gain_of}
use Rattle.track_cells.specs.Sizes.{size_to}
use Rattle.track_cells.proofs.Sums.{sum_none, sum_more, sum_within, size_below}
use Rattle.track_cells.proofs.frequency.weighted.Goals as goal

pub loop-i-init : goal.loop-i-init
loop-i-init c = record { is = sym (sum_none (λ (i : ℕ). scaled (get_or c.args.row.now i (pos 0)) (gain_of c.args.points.now i))); within = record { re = omega arith; im = omega arith } }

pub plus-sum-requires-clause-self_within : goal.plus-sum-requires-clause-self_within
plus-sum-requires-clause-self_within c =
    let small = size_below c.loop-i.i 58154 c.args.row.now (omega (arith, c.loop-i-test.true)) c.requires.row in
    record { re = omega (arith, c.loop-i.invariant.within.re, small); im = omega (arith, c.loop-i.invariant.within.im, small) }

pub plus-sum-requires-clause-other_within : goal.plus-sum-requires-clause-other_within
plus-sum-requires-clause-other_within c =
    let v = get_or c.args.row.now c.loop-i.i (pos 0) in
    let fits : FitsSigned w16 v = search rules in
    let f : to_z w64 (of_z w64 c.from.result) ≡ v = omega (arith, ints, c.from.ensures, fits) in
    let most : nat_abs (to_z w64 (of_z w64 c.from.result)) ≤ 2 ^ 15 = omega (arith, ints, f, fits) in
    let w = c.scaled.ensures.within (2 ^ 22) (2 ^ 15) (c.requires.points c.loop-i.i (omega (arith, c.loop-i-test.true, c.requires.long))) most in
    record { re = omega (arith, w.re); im = omega (arith, w.im) }

pub loop-i-preserved : goal.loop-i-preserved
loop-i-preserved c =
    let i = c.loop-i.i in
    let row = c.args.row.now in
    let points = c.args.points.now in
    let v = get_or row i (pos 0) in
    let fits : FitsSigned w16 v = search rules in
    let n : to_z w64 (of_z w64 c.from.result) ≡ v = omega (arith, ints, c.from.ensures, fits) in
    let f = λ (k : ℕ). scaled (get_or row k (pos 0)) (gain_of points k) in
    let least : nat_abs (to_z w64 (of_z w64 c.from.result)) ≤ nat_abs v = subst (λ (z : ℤ). nat_abs z ≤ nat_abs v) (sym n) (omega arith) in
    let w = c.scaled.ensures.within (2 ^ 22) (nat_abs v) (c.requires.points i (omega (arith, c.loop-i-test.true, c.requires.long))) least in
    let one : c.scaled.result ≡ f i = c.scaled.ensures.is ∙ ap (λ (z : ℤ). scaled z (gain_of points i)) n in
    record {
      is = c.plus-sum.ensures.is ∙ ap (λ (z : Complex). plus z c.scaled.result) c.loop-i.invariant.is ∙ ap (plus (sum_of f (numbers i))) one ∙ sym (sum_more f i);
      within = sum_within i (i + 1) (2 ^ 22) row c.loop-i.sum c.scaled.result c.plus-sum.result c.loop-i.invariant.within w c.plus-sum.ensures.within refl;
    }
