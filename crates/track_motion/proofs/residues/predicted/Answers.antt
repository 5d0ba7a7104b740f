-- One symbol more.
use Rattle.std.proofs.Common.{◌≡◌, ℕ, ◌+◌, ◌-◌, ◌*◌, ◌^◌, ◌<◌, ◌≤◌, refl, ap, sym, ◌∙◌, subst, arith, to_z, of_z}
use Rattle.std.specs.Prelude.{ℤ, pos, nat_abs}
use Rattle.std.specs.Int.{w64}
use Rattle.spec_words.specs.Words.{numbers}
use Rattle.tracking.specs.Comb.{comb_of, turned_value}
use Rattle.tracking.specs.InTime.{symbol_at}
use Rattle.tracking.specs.Moving.{tap}
use Rattle.track_arithmetic.specs.Numbers.{plus, scaled, near, sum_of}
use Rattle.track_arithmetic.specs.declared.complex.Complex.{Complex}
use Rattle.track_arithmetic.proofs.Products.{held}
use Rattle.track_turns.proofs.Adding.{numbers_none, numbers_more}
use Rattle.track_motion.proofs.Tests.{place_of, place_to}
use Rattle.track_motion.proofs.residues.predicted.Goals as goal

pub loop-i-init : goal.loop-i-init
loop-i-init g c = record { is = λ symbols h a. sym (numbers_none _); within = record { re = omega arith; im = omega arith } }

pub turned_value-value-requires-clause-in_file : goal.turned_value-value-requires-clause-in_file
turned_value-value-requires-clause-in_file g c =
    let n = c.args.window.now.count in
    let first = place_of n c.args.m 1 c.requires.first in
    let last = place_of n c.args.m 13 c.requires.last in
    place_to n c.args.m (4 * c.loop-i.i + 1) (omega (arith, first.first)) (omega (arith, last.last, c.loop-i-test.true))

pub loop-i-preserved : goal.loop-i-preserved
loop-i-preserved g c =
    let i = c.loop-i.i in
    let v = c.turned_value-value.result in
    let t = c.tap.result in
    let fits : to_z w64 (of_z w64 t) ≡ t = held t (omega (arith, c.tap.ensures.within)) in
    let small : nat_abs (to_z w64 (of_z w64 t)) ≤ 2429 = subst (λ (z : ℤ). nat_abs z ≤ 2429) (sym fits) c.tap.ensures.within in
    let w = c.scaled.ensures.within (2 ^ 30) 2429 c.turned_value-value.ensures.within small in
    let all = c.plus-sum.ensures.within (i * (2429 * 2 ^ 30)) (2429 * 2 ^ 30) c.loop-i.invariant.within w in
    record {
      is = λ symbols h a.
          let comb = comb_of g.M.Carriers.MODE symbols in
          let f = λ (k : ℕ). scaled (tap c.args.motion 2 k) (turned_value comb c.args.m (c.args.m + 4 * k - 6) c.args.j) in
          let place : symbol_at c.args.m (4 * i + 1) ≡ c.args.m + 4 * i - 6 = omega arith in
          let one : c.scaled.result ≡ f i =
          c.scaled.ensures.is ∙ ap (λ (z : ℤ). scaled z v) (fits ∙ c.tap.ensures.is)
          ∙ ap (scaled (tap c.args.motion 2 i)) (c.turned_value-value.ensures.is symbols h a ∙ ap (λ (z : ℕ). turned_value comb c.args.m z c.args.j) place) in
          c.plus-sum.ensures.is ∙ ap (λ (z : Complex). plus z c.scaled.result) (c.loop-i.invariant.is symbols h a) ∙ ap (plus (sum_of f (numbers i))) one ∙ sym (numbers_more f i);
      within = record { re = omega (arith, all.re); im = omega (arith, all.im) };
    }

pub plus-sum-requires-clause-other_within : goal.plus-sum-requires-clause-other_within
plus-sum-requires-clause-other_within g c =
    let t = c.tap.result in
    let fits : to_z w64 (of_z w64 t) ≡ t = held t (omega (arith, c.tap.ensures.within)) in
    let small : nat_abs (to_z w64 (of_z w64 t)) ≤ 2429 = subst (λ (z : ℤ). nat_abs z ≤ 2429) (sym fits) c.tap.ensures.within in
    let w = c.scaled.ensures.within (2 ^ 30) 2429 c.turned_value-value.ensures.within small in
    record { re = omega (arith, w.re); im = omega (arith, w.im) }

pub returns-clause-is : goal.returns-clause-is
returns-clause-is g c = λ symbols h a.
    let comb = comb_of g.M.Carriers.MODE symbols in
    let f = λ (k : ℕ). scaled (tap c.args.motion 2 k) (turned_value comb c.args.m (c.args.m + 4 * k - 6) c.args.j) in
    let whole : c.loop-i.i ≡ 4 = omega (arith, c.loop-i-test.false, c.loop-i.auto.i-end) in
    c.near.ensures.is ∙ ap (near 26) (c.loop-i.invariant.is symbols h a ∙ ap (λ (z : ℕ). sum_of f (numbers z)) whole)
