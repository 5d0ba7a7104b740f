-- Twelve points, weighted and turned back.
use Rattle.std.proofs.Common.{◌≡◌, ℕ, ◌+◌, ◌-◌, ◌*◌, ◌^◌, ◌<◌, ◌≤◌, List, take, drop, ap, ◌∙◌, arith}
use Rattle.std.specs.Prelude.{ℤ}
use Rattle.tracking.specs.Comb.{points}
use Rattle.tracking.specs.InFrequency.{first_point, frequency_row, slope, interpolated}
use Rattle.track_cells.specs.Gains.{gain_of}
use Rattle.track_cells.proofs.Centred.{sum_is, gain_is, of_part}
use Rattle.track_cells.proofs.frequency.carrier_gain.Goals as goal

pub returns-clause-is : goal.returns-clause-is
returns-clause-is c = λ h are.
    let g = c.args.guard in
    let m = c.args.mode in
    let k = c.args.k in
    let all = c.args.centred.now in
    let o = c.first_point-first.result in
    let first : o ≡ first_point m k = c.first_point-first.ensures.is in
    let n = o + 12 - o in
    let same : (i : ℕ) → i < 12 → gain_of (take n (drop o all)) i ≡ gain_of all (first_point m k + i) = λ i few. of_part all o n i (omega arith) few ∙ ap (λ (z : ℕ). gain_of all (z + i)) first in
    let row = c.row.ensures.is ∙ ap (λ (z : ℕ). frequency_row g (k - 3 * z)) first in
    let within : first_point m k + 12 ≤ points m = omega (arith, first, c.first_point-first.ensures.within) in
    let inner : c.near.result ≡ interpolated g m h k = c.near.ensures.is ∙ sum_is g m h all (take n (drop o all)) c.row.result.now k c.weighted-sum.result within are same row c.weighted-sum.ensures.is in
    gain_is g m h k (63 * (k * c.slope.result)) c.near.result c.turn.result inner (ap (λ (z : ℕ). 63 * (k * z)) c.slope.ensures.is) c.turn.ensures.is

pub returns-clause-within : goal.returns-clause-within
returns-clause-within c = c.turn.ensures.within (2 ^ 24) (c.near.ensures.within (2 ^ 24) c.weighted-sum.ensures.within)
