-- One symbol more.
use Rattle.std.proofs.Common.{rules, ◌≡◌, ℕ, ◌+◌, ◌*◌, ◌^◌, ◌<◌, ◌≤◌, get_or, refl, ap, sym, ◌∙◌, subst, arith, to_z, of_z, FitsSigned}
use Rattle.std.specs.Prelude.{ℤ, pos, nat_abs}
use Rattle.std.specs.Int.{w16}
use Rattle.std.proofs.lemmas.Int.{ints}
use Rattle.track_arithmetic.specs.Laws.{IsWithin}
use Rattle.spec_words.specs.Words.{numbers}
use Rattle.tracking.specs.Comb.{comb_of, turned_value}
use Rattle.tracking.specs.InTime.{place, symbol_at}
use Rattle.track_arithmetic.specs.Numbers.{plus, scaled, sum_of}
use Rattle.track_arithmetic.specs.declared.complex.Complex.{Complex}
use Rattle.track_cells.proofs.Sums.{sum_none, sum_more, sum_within}
use Rattle.track_comb_gains.proofs.Shares.{size_below}
use Rattle.track_comb_gains.proofs.plain.weighted.Goals as goal

pub loop-i-init : goal.loop-i-init
loop-i-init g c = record { is = λ symbols h a. sym (sum_none _); within = record { re = omega arith; im = omega arith } }

pub share-requires-clause-in_file : goal.share-requires-clause-in_file
share-requires-clause-in_file g c =
    let v = get_or c.args.taps.now c.loop-i.i (pos 0) in
    let fits : FitsSigned w16 v = search rules in
    let same : to_z w16 (of_z w16 v) ≡ v = omega (arith, ints, fits) in
    λ some. c.requires.in_file c.loop-i.i (omega (arith, c.loop-i-test.true)) (λ e. some (same ∙ e))

pub plus-sum-requires-clause-self_within : goal.plus-sum-requires-clause-self_within
plus-sum-requires-clause-self_within g c =
    let small = size_below c.loop-i.i c.args.taps.now (omega (arith, c.loop-i-test.true)) c.requires.small in
    record { re = omega (arith, c.loop-i.invariant.within.re, small); im = omega (arith, c.loop-i.invariant.within.im, small) }

pub loop-i-preserved : goal.loop-i-preserved
loop-i-preserved g c =
    let i = c.loop-i.i in
    let taps = c.args.taps.now in
    let v = get_or taps i (pos 0) in
    let fits : FitsSigned w16 v = search rules in
    let same : to_z w16 (of_z w16 v) ≡ v = omega (arith, ints, fits) in
    let small : IsWithin (nat_abs v * 2 ^ 30) c.share.result = subst (λ (z : ℤ). IsWithin (nat_abs z * 2 ^ 30) c.share.result) same c.share.ensures.within in
    record {
      is = λ symbols h a.
          let value = λ (k : ℕ). turned_value (comb_of g.M.Carriers.MODE symbols) c.args.m (symbol_at c.args.m (place c.args.d k)) c.args.j in
          let f = λ (k : ℕ). scaled (get_or taps k (pos 0)) (value k) in
          c.plus-sum.ensures.is ∙ ap (λ (z : Complex). plus z c.share.result) (c.loop-i.invariant.is symbols h a) ∙ ap (plus (sum_of f (numbers i))) (c.share.ensures.is symbols h a ∙ ap (λ (z : ℤ). scaled z (value i)) same) ∙ sym (sum_more f i);
      within = sum_within i (i + 1) (2 ^ 30) taps c.loop-i.sum c.share.result c.plus-sum.result c.loop-i.invariant.within small c.plus-sum.ensures.within refl;
    }
