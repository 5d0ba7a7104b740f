-- One symbol more.
use Rattle.std.proofs.Common.{ℕ, ◌+◌, ◌*◌, ◌^◌, ◌<◌, get_or, refl, ap, sym, ◌∙◌, arith}
use Rattle.std.specs.Prelude.{pos, nat_abs}
use Rattle.spec_words.specs.Words.{numbers}
use Rattle.tracking.specs.Comb.{comb_of}
use Rattle.track_arithmetic.specs.Laws.{IsWithin}
use Rattle.track_arithmetic.specs.Numbers.{plus, sum_of, times}
use Rattle.track_arithmetic.specs.declared.complex.Complex.{Complex}
use Rattle.track_cells.specs.Gains.{gain_of}
use Rattle.track_cells.proofs.Sums.{sum_none, sum_more, sum_within, size_more}
use Rattle.track_comb_gains.proofs.Shares.{size_below}
use Rattle.track_comb_gains.proofs.gains.weighted.Goals as goal

pub loop-i-init : goal.loop-i-init
loop-i-init g c = record { is = λ all h. sym (sum_none _); within = record { re = omega arith; im = omega arith } }

pub plus-sum-requires-clause-self_within : goal.plus-sum-requires-clause-self_within
plus-sum-requires-clause-self_within g c =
    let small = size_below c.loop-i.i c.args.taps.now (omega (arith, c.loop-i-test.true)) c.requires.small in
    record { re = omega (arith, c.loop-i.invariant.within.re, small); im = omega (arith, c.loop-i.invariant.within.im, small) }

pub times-requires-clause-self_within : goal.times-requires-clause-self_within
times-requires-clause-self_within g c =
    let i = c.loop-i.i in
    let taps = c.args.taps.now in
    let few : i < 4 = omega (arith, c.loop-i-test.true) in
    let low = size_below (i + 1) taps (omega (arith, few)) c.requires.small in
    let one = size_more i taps in
    let w = c.requires.factors i few in
    record { re = omega (arith, w.re, low, one); im = omega (arith, w.im, low, one) }

pub plus-sum-requires-clause-other_within : goal.plus-sum-requires-clause-other_within
plus-sum-requires-clause-other_within g c =
    let i = c.loop-i.i in
    let taps = c.args.taps.now in
    let few : i < 4 = omega (arith, c.loop-i-test.true) in
    let low = size_below (i + 1) taps (omega (arith, few)) c.requires.small in
    let one = size_more i taps in
    let w = c.times.ensures.within (nat_abs (get_or taps i (pos 0)) * 2 ^ 14) (2 ^ 15) (c.requires.factors i few) (c.row.ensures.within c.args.j c.requires.point) in
    record { re = omega (arith, w.re, low, one); im = omega (arith, w.im, low, one) }

pub loop-i-preserved : goal.loop-i-preserved
loop-i-preserved g c =
    let i = c.loop-i.i in
    let taps = c.args.taps.now in
    let factors = c.args.factors.now in
    let v = get_or taps i (pos 0) in
    let few : i < 4 = omega (arith, c.loop-i-test.true) in
    let w = c.times.ensures.within (nat_abs v * 2 ^ 14) (2 ^ 15) (c.requires.factors i few) (c.row.ensures.within c.args.j c.requires.point) in
    let small : IsWithin (nat_abs v * 2 ^ 30) c.times.result = record { re = omega (arith, w.re); im = omega (arith, w.im) } in
    record {
      is = λ all h.
          let f = λ (k : ℕ). times (gain_of factors k) ((comb_of g.M.Carriers.MODE all).value (get_or c.args.symbols.now k 0) c.args.j) in
          c.plus-sum.ensures.is ∙ ap (λ (z : Complex). plus z c.times.result) (c.loop-i.invariant.is all h) ∙ ap (plus (sum_of f (numbers i))) (c.times.ensures.is ∙ ap (times (gain_of factors i)) (c.row.ensures.is all c.args.j h c.requires.point)) ∙ sym (sum_more f i);
      within = sum_within i (i + 1) (2 ^ 30) taps c.loop-i.sum c.times.result c.plus-sum.result c.loop-i.invariant.within small c.plus-sum.ensures.within refl;
    }
