-- The weighted sum of twelve points of a list.
use Rattle.std.proofs.Common.{◌≡◌, ℕ, ◌+◌, ◌-◌, ◌*◌, ◌/◌, ◌%◌, ◌<◌, ◌≤◌, List, length, take, drop, get_or, ap, ◌∙◌, arith}
use Rattle.std.specs.Prelude.{ℤ, pos}
use Rattle.std.proofs.lemmas.List.{get_or-take, get_or-drop}
use Rattle.spec_words.specs.Words.{numbers}
use Rattle.spec_words.proofs.Counting.{length-numbers, get_or-numbers}
use Rattle.mode_set.specs.declared.modes.Guard.{Guard}
use Rattle.mode_set.specs.declared.modes.Mode.{Mode}
use Rattle.tracking.specs.Comb.{points}
use Rattle.tracking.specs.InFrequency.{frequency_row, first_point, slope, centred, interpolated, carrier_gain}
use Rattle.tracking.proofs.Same.{sum_same}
use Rattle.track_arithmetic.specs.Numbers.{times, scaled, near, sum_of, turned_by, nothing}
use Rattle.track_arithmetic.specs.declared.complex.Complex.{Complex}
use Rattle.track_cells.specs.Gains.{gain_of, AreCentred}

-- the sum over twelve points is that of the definition
pub sum_by_points : (g : Guard) (m : Mode) (h : ℕ → Complex) (all : List Complex) (x : ℕ → Complex) (row : List ℤ) (k : ℕ) (sum : Complex) → first_point m k + 12 ≤ points m → AreCentred g m h all
    → ((i : ℕ) → i < 12 → x i ≡ gain_of all (first_point m k + i)) → row ≡ frequency_row g (k - 3 * first_point m k)
    → sum ≡ sum_of (λ (i : ℕ). scaled (get_or row i (pos 0)) (x i)) (numbers 12)
    → near 14 sum ≡ interpolated g m h k
sum_by_points g m h all x row k sum within are same is e =
    let o = first_point m k in
    let f = λ (i : ℕ). scaled (get_or row i (pos 0)) (x i) in
    let l = λ (i : ℕ). scaled (get_or row i (pos 0)) (centred g h (o + i)) in
    let each : (i : ℕ) → i < length (numbers 12) → f (get_or (numbers 12) i 0) ≡ l (get_or (numbers 12) i 0) = λ i lt.
    let less : i < 12 = omega (arith, lt, length-numbers 12) in
    let at = get_or-numbers 12 i less in
    let n = get_or (numbers 12) i 0 in
    let few : n < 12 = omega (arith, at, less) in
    ap (scaled (get_or row n (pos 0))) (same n few ∙ are (o + n) (omega (arith, within, few))) in
    ap (near 14) (e ∙ sum_same (numbers 12) f l each) ∙ ap (λ (z : List ℤ). near 14 (sum_of (λ (i : ℕ). scaled (get_or z i (pos 0)) (centred g h (o + i))) (numbers 12))) is

pub sum_is : (g : Guard) (m : Mode) (h : ℕ → Complex) (all part : List Complex) (row : List ℤ) (k : ℕ) (sum : Complex) → first_point m k + 12 ≤ points m → AreCentred g m h all
    → ((i : ℕ) → i < 12 → gain_of part i ≡ gain_of all (first_point m k + i)) → row ≡ frequency_row g (k - 3 * first_point m k)
    → sum ≡ sum_of (λ (i : ℕ). scaled (get_or row i (pos 0)) (gain_of part i)) (numbers 12)
    → near 14 sum ≡ interpolated g m h k
sum_is g m h all part row k sum within are same is e = sum_by_points g m h all (λ (i : ℕ). gain_of part i) row k sum within are same is e

pub gain_is : (g : Guard) (m : Mode) (h : ℕ → Complex) (k i : ℕ) (x y : Complex) → x ≡ interpolated g m h k → i ≡ 63 * (k * slope g) → y ≡ near 14 (times x (turned_by i)) → y ≡ carrier_gain g m h k
unfolding carrier_gain
gain_is g m h k i x y ex ei e = e ∙ ap (λ (z : Complex). near 14 (times z (turned_by i))) ex ∙ ap (λ (z : ℕ). near 14 (times (interpolated g m h k) (turned_by z))) ei

-- an item of twelve from a place on
pub of_part : (all : List Complex) (o n i : ℕ) → n ≡ 12 → i < 12 → gain_of (take n (drop o all)) i ≡ gain_of all (o + i)
of_part all o n i e h = get_or-take n (drop o all) i nothing (omega (arith, e, h)) ∙ get_or-drop o all i nothing

-- an item of so many from a place on
pub of_slice : (all : List Complex) (o n i : ℕ) → i < n → gain_of (take n (drop o all)) i ≡ gain_of all (o + i)
of_slice all o n i h = get_or-take n (drop o all) i nothing h ∙ get_or-drop o all i nothing

-- carrier 15 + 12 b + i, of which the points begin at 4 b + i / 3
pub block_is : (g : Guard) (m : Mode) (h : ℕ → Complex) (all part : List Complex) (b i k a : ℕ) (sum x y : Complex) → 4 * b + 15 ≤ points m → i < 12 → k ≡ 15 + 12 * b + i → AreCentred g m h all
    → ((n : ℕ) → n < 15 → gain_of part n ≡ gain_of all (4 * b + n))
    → sum ≡ sum_of (λ (n : ℕ). scaled (get_or (frequency_row g (15 + i % 3)) n (pos 0)) (gain_of part (i / 3 + n))) (numbers 12)
    → x ≡ near 14 sum → a ≡ 63 * (k * slope g) → y ≡ near 14 (times x (turned_by a)) → y ≡ carrier_gain g m h k
block_is g m h all part b i k a sum x y few lt ek are same e ex ea ey =
    let place : first_point m k ≡ 4 * b + i / 3 = omega (arith, ek, few, lt) in
    let at : 15 + i % 3 ≡ k - 3 * first_point m k = omega (arith, ek, place, lt) in
    let within : first_point m k + 12 ≤ points m = omega (arith, place, few, lt) in
    let each : (n : ℕ) → n < 12 → gain_of part (i / 3 + n) ≡ gain_of all (first_point m k + n) = λ n less.
    same (i / 3 + n) (omega (arith, less, lt)) ∙ ap (gain_of all) (omega (arith, place)) in
    let inner : x ≡ interpolated g m h k = ex ∙ sum_by_points g m h all (λ (n : ℕ). gain_of part (i / 3 + n)) (frequency_row g (15 + i % 3)) k sum within are each (ap (frequency_row g) at) e in
    gain_is g m h k a x y inner ea ey
