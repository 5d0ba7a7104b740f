-- Three carriers more of the block.
use Rattle.std.proofs.Common.{◌≡◌, ℕ, ◌+◌, ◌-◌, ◌*◌, ◌^◌, ◌<◌, length, take, drop, get_or, [], refl, ap, ◌∙◌, arith}
use Rattle.std.specs.Prelude.{ℤ}
use Rattle.tracking.specs.InFrequency.{carrier_gain, frequency_row}
use Rattle.track_arithmetic.specs.Laws.{IsWithin}
use Rattle.track_arithmetic.specs.Numbers.{nothing}
use Rattle.track_arithmetic.specs.declared.complex.Complex.{Complex}
use Rattle.track_cells.specs.Gains.{gain_of}
use Rattle.track_cells.specs.Weighed.{pair, pair_at, part_at, weighed}
use Rattle.track_cells.proofs.Centred.{of_slice}
use Rattle.track_cells.proofs.Placed.{three_more}
use Rattle.track_cells.proofs.Weighing.{back_is, carrier_is}
use Rattle.track_cells.proofs.frequency.put_block.Goals as goal

pub loop-n-init : goal.loop-n-init
loop-n-init c = record {
  long = refl;
  is = λ gains are before k lt. before k (omega (arith, lt));
  within = λ before k lt. before k (omega (arith, lt));
}

pub loop-n-preserved : goal.loop-n-preserved
loop-n-preserved c =
    let n = c.loop-n.n in
    let old = c.loop-n.to in
    let inv = c.loop-n.invariant in
    let b = c.args.b in
    let g = c.args.guard in
    let all = c.args.centred.now in
    let k = 15 + 192 * b + 3 * n in
    let lt : n < 64 = omega (arith, c.loop-n-test.true) in
    let part = take (64 * b + 75 - 64 * b) (drop (64 * b) all) in
    let re = c.real_parts.result in
    let im = c.imaginary_parts.result in
    let same : (i : ℕ) → i < 75 → pair_at re im i ≡ gain_of all (64 * b + i) = λ i less.
    ap (λ (z : ℤ). pair z (part_at im i)) (c.real_parts.ensures.is i less) ∙ ap (pair (gain_of part i).re) (c.imaginary_parts.ensures.is i less) ∙ of_slice all (64 * b) (64 * b + 75 - 64 * b) i (omega (arith, less)) in
    let new = c.put_three.new.to in
    let more : 15 + 192 * b + 3 * (n + 1) ≡ k + 3 = omega arith in
    record {
      long = c.put_three.ensures.long ∙ inv.long;
      is = λ gains are before. three_more (λ (j : ℕ) (z : Complex). z ≡ carrier_gain g c.args.mode gains j) nothing old new k (15 + 192 * b + 3 * (n + 1)) more c.put_three.ensures.before (inv.is gains are before)
          (λ r lr. carrier_is g c.args.mode gains all re im b n r (k + r) (pair_at (get_or c.weighed_rows-re.result r []) (get_or c.weighed_rows-im.result r []) n) (pair_at c.args.cosines.now c.args.sines.now (3 * n + r)) (gain_of new (k + r))
          c.requires.block lt lr refl are same
          (ap (λ (z : ℤ). pair z (part_at (get_or c.weighed_rows-im.result r []) n)) (c.weighed_rows-re.ensures.is r n lr lt) ∙ ap (pair (weighed (frequency_row g (15 + r)) re n)) (c.weighed_rows-im.ensures.is r n lr lt))
          (back_is g c.args.cosines.now c.args.sines.now (3 * n + r) (k + r) b c.requires.cosines c.requires.sines (omega (arith, lt, lr)) (omega arith))
          (c.put_three.ensures.is r lr));
      within = λ before. three_more (λ (j : ℕ) (z : Complex). IsWithin (2 ^ 25) z) nothing old new k (15 + 192 * b + 3 * (n + 1)) more c.put_three.ensures.before (inv.within before) c.put_three.ensures.within;
    }

pub returns-clause-is : goal.returns-clause-is
returns-clause-is c = λ gains are before k lt. c.loop-n.invariant.is gains are before k (omega (arith, lt, c.loop-n-test.false))

pub returns-clause-within : goal.returns-clause-within
returns-clause-within c = λ before k lt. c.loop-n.invariant.within before k (omega (arith, lt, c.loop-n-test.false))
