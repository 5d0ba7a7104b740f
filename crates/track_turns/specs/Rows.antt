-- Sums over points of rows: the values of all comb points of a symbol.
use Rattle.std.specs.Prelude.{◌≡◌, ℕ, ◌^◌, ◌<◌, List, length, get_or, sum_by}
use Rattle.track_arithmetic.specs.Laws.{IsWithin}
use Rattle.track_arithmetic.specs.Numbers.{nothing, times, minus, conjugate, power, near, sum_of}
use Rattle.track_arithmetic.specs.declared.complex.Complex.{Complex}

-- the value of a point
abbrev pub at : List Complex → ℕ → Complex
at row j = get_or row j nothing

-- all these points are in the row, and no value of the row exceeds that of a cell
pub record IsRow (points : List ℕ) (row : List Complex) : Type 0 where
  pub has : (i : ℕ) → i < length points → get_or points i 0 < length row
  pub small : (j : ℕ) → j < length row → IsWithin (2 ^ 15) (at row j)

-- the product of a row at a point with the conjugate of another
abbrev pub product : List Complex → List Complex → ℕ → Complex
product row other j = times (at row j) (conjugate (at other j))

-- the sum of these products over the points
abbrev pub products : List ℕ → List Complex → List Complex → Complex
products points row other = sum_of (product row other) points

-- the distance at a point of a row from another row after a turn
abbrev pub difference : List Complex → List Complex → Complex → ℕ → ℕ
difference row other turn j = power (minus (at row j) (near 14 (times (at other j) turn)))

-- the sum of these distances over the points
abbrev pub differences : List ℕ → List Complex → List Complex → Complex → ℕ
differences points row other turn = sum_by (difference row other turn) points
