-- Interpolation in frequency: the gain at all carriers of a symbol, from the gain at its comb points.
use Rattle.std.specs.Prelude.{ℕ, ◌+◌, ◌-◌, ◌*◌, ◌/◌, min, nat_le, if◌then◌else◌, List, [], get_or, reverse, pos, ℤ}
use Rattle.spec_words.specs.Words.{numbers}
use Rattle.mode_set.specs.declared.modes.Guard.{Guard}
use Rattle.mode_set.specs.declared.modes.Guard.TheVariants.{G1of32, G1of16, G1of8, G1of4}
use Rattle.mode_set.specs.declared.modes.Mode.{Mode}
use Rattle.tracking.specs.Coefficients.{frequency_rows}
use Rattle.tracking.specs.Comb.{points}
use Rattle.track_arithmetic.specs.Numbers.{times, scaled, near, sum_of, turned_by}
use Rattle.track_arithmetic.specs.declared.complex.Complex.{Complex}

-- sixty-fourths of a turn from one carrier to the next, for a delay of half the guard interval of 1/4 to 1/32 of the
-- useful symbol
abbrev pub slope : Guard → ℕ
slope G1of4 = 8
slope G1of8 = 4
slope G1of16 = 2
slope G1of32 = 1

-- row t of the coefficients, t below 34; the second half is the first reversed
unfoldable pub frequency_row : Guard → ℕ → List ℤ
frequency_row g t = if nat_le t 16 then get_or (frequency_rows g) t [] else reverse
    (get_or (frequency_rows g) (33 - t) [])

-- the first of the twelve points for carrier k
abbrev pub first_point : Mode → ℕ → ℕ
first_point m k = min (points m - 12) (k / 3 - 5)

-- the gain at point j, turned so that the middle of the guard interval has no delay
abbrev pub centred : Guard → (ℕ → Complex) → ℕ → Complex
centred g h j = near 14 (times (h j) (turned_by (3 * j * slope g)))

-- the weighted sum of the gains at twelve points
abbrev pub interpolated : Guard → Mode → (ℕ → Complex) → ℕ → Complex
interpolated g m h k = near 14
    (sum_of (λ i. scaled (get_or (frequency_row g (k - 3 * first_point m k)) i (pos 0))
    (centred g h (first_point m k + i))) (numbers 12))

-- the gain at carrier k, turned back: 63 sixty-fourths of a turn forwards are one backwards
unfoldable pub carrier_gain : Guard → Mode → (ℕ → Complex) → ℕ → Complex
carrier_gain g m h k = near 14 (times (interpolated g m h k) (turned_by (63 * (k * slope g))))
