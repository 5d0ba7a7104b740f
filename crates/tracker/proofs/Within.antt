-- The gain at a carrier, by the gains at the points of the symbol alone.
use Rattle.std.proofs.Common.{◌≡◌, ℕ, ◌+◌, ◌-◌, ◌*◌, ◌<◌, ◌≤◌, length, get_or, ap, arith}
use Rattle.std.specs.Prelude.{pos}
use Rattle.spec_words.specs.Words.{numbers}
use Rattle.spec_words.proofs.Counting.{length-numbers, get_or-numbers}
use Rattle.mode_set.specs.declared.modes.Guard.{Guard}
use Rattle.mode_set.specs.declared.modes.Mode.{Mode}
use Rattle.mode_set.specs.declared.modes.Mode.TheVariants.{M2k, M8k}
use Rattle.tracking.specs.Comb.{points}
use Rattle.tracking.specs.InFrequency.{frequency_row, first_point, slope, centred, carrier_gain}
use Rattle.tracking.proofs.Same.{sum_same}
use Rattle.track_arithmetic.specs.Numbers.{times, scaled, near, turned_by}
use Rattle.track_arithmetic.specs.declared.complex.Complex.{Complex}

twelve : (m : Mode) → 12 ≤ points m
twelve M2k = omega arith
twelve M8k = omega arith

pub same_carrier : (g : Guard) (m : Mode) (h i : ℕ → Complex) (k : ℕ) → ((j : ℕ) → j < points m → h j ≡ i j) → carrier_gain g m h k ≡ carrier_gain g m i k
unfolding carrier_gain
same_carrier g m h i k e =
    let o = first_point m k in
    let row = frequency_row g (k - 3 * o) in
    let l = λ (j : ℕ). scaled (get_or row j (pos 0)) (centred g h (o + j)) in
    let r = λ (j : ℕ). scaled (get_or row j (pos 0)) (centred g i (o + j)) in
    let each : (n : ℕ) → n < length (numbers 12) → l (get_or (numbers 12) n 0) ≡ r (get_or (numbers 12) n 0) = λ n lt.
    let less : n < 12 = omega (arith, lt, length-numbers 12) in
    let at = get_or-numbers 12 n less in
    let j = get_or (numbers 12) n 0 in
    let inside : o + j < points m = let t = twelve m in omega (arith, at, less, t) in
    ap (λ (z : Complex). scaled (get_or row j (pos 0)) (near 14 (times z (turned_by (3 * (o + j) * slope g))))) (e (o + j) inside) in
    ap (λ (z : Complex). near 14 (times (near 14 z) (turned_by (63 * (k * slope g))))) (sum_same (numbers 12) l r each)
