-- One point more.
use Rattle.std.proofs.Common.{◌≡◌, ℕ, ◌+◌, ◌*◌, ◌<◌, ◌^◌, length, get_or, refl, ap, ◌∙◌, arith}
use Rattle.std.proofs.lemmas.List.{get_or-set_other, length-set}
use Rattle.spec_words.specs.Words.{numbers}
use Rattle.tracking.specs.Comb.{comb_of}
use Rattle.track_arithmetic.specs.Laws.{IsWithin}
use Rattle.track_arithmetic.specs.Numbers.{near, nothing, sum_of, times}
use Rattle.track_arithmetic.specs.declared.complex.Complex.{Complex}
use Rattle.track_cells.specs.Gains.{gain_of}
use Rattle.track_comb_gains.proofs.Fourths.{fourth_placed}
use Rattle.track_comb_gains.proofs.gains.put_distance.Goals as goal

pub near-requires-clause-x : goal.near-requires-clause-x
near-requires-clause-x g c =
    let w = c.weighted.ensures.within in
    record { re = omega (arith, w.re); im = omega (arith, w.im) }

pub loop-q-init : goal.loop-q-init
loop-q-init g c = record {
  long = omega arith;
  is = λ all j h lt e. absurd (omega (arith, lt, e, c.requires.first));
  within = λ j lt e. absurd (omega (arith, lt, e, c.requires.first));
  others = λ j no. refl;
}

pub loop-q-preserved : goal.loop-q-preserved
loop-q-preserved g c =
    let q = c.loop-q.q in
    let first = c.args.first in
    let old = c.loop-q.gains in
    let i = c.loop-q.invariant in
    let j = first + 4 * q in
    let v = c.near.result in
    let few : j < length old = omega (arith, c.loop-q-test.true, i.long, c.requires.long, c.requires.first) in
    let w = c.weighted.ensures.within in
    let small : IsWithin (2 ^ 21) v = c.near.ensures.within (2 ^ 21) (record { re = omega (arith, w.re); im = omega (arith, w.im) }) in
    record {
      long = length-set old j v ∙ i.long;
      is = λ all k h lt e. fourth_placed (λ (p : ℕ) (x : Complex). x ≡ near 22 (sum_of (λ (n : ℕ). times (gain_of c.args.factors.now n) ((comb_of g.M.Carriers.MODE all).value (get_or c.args.symbols.now n 0) p)) (numbers 4))) nothing old first q v few c.requires.first
          (λ p less ep. i.is all p h less ep) (c.near.ensures.is ∙ ap (near 22) (c.weighted.ensures.is all h)) k lt e;
      within = fourth_placed (λ (p : ℕ) (x : Complex). IsWithin (2 ^ 21) x) nothing old first q v few c.requires.first i.within small;
      others = λ k no. get_or-set_other old j k v nothing (λ e. no (omega (arith, e, c.requires.first))) ∙ i.others k no;
    }

pub returns-clause-is : goal.returns-clause-is
returns-clause-is g c = λ all j h lt e. c.loop-q.invariant.is all j h (omega (arith, lt, e, c.requires.first, c.requires.long, c.loop-q.invariant.long, c.loop-q-test.false)) e
