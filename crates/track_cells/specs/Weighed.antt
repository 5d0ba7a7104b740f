-- Weighted sums of the parts of points.
use Rattle.std.specs.Prelude.{◌≡◌, ℕ, zero, suc, ◌+◌, ◌*◌, ◌%◌, ◌^◌, ◌<◌, ◌≤◌, List, get_or, ℤ, pos, nat_abs, ◌+ℤ◌}
use Rattle.std.specs.Prelude.{◌*ℤ◌}
use Rattle.mode_set.specs.declared.modes.Guard.{Guard}
use Rattle.tracking.specs.InFrequency.{slope}
use Rattle.track_arithmetic.specs.Numbers.{cosine, floor}
use Rattle.track_arithmetic.specs.declared.complex.Complex.{Complex}

-- part n of a list
abbrev pub part_at : List ℤ → ℕ → ℤ
part_at parts n = get_or parts n (pos 0)

-- the number with these parts
abbrev pub pair : ℤ → ℤ → Complex
pair re im = record { re = re; im = im }

-- the same of part n of two lists
abbrev pub pair_at : List ℤ → List ℤ → ℕ → Complex
pair_at re im n = pair (part_at re n) (part_at im n)

-- the sum of the first parts from place n on, each times its coefficient
unfoldable pub weighed_to : ℕ → List ℤ → List ℤ → ℕ → ℤ
weighed_to zero row parts n = pos 0
weighed_to (suc i) row parts n = weighed_to i row parts n +ℤ part_at row i *ℤ part_at parts (n + i)

-- the sum of twelve over 2^14, the nearest integer
abbrev pub weighed : List ℤ → List ℤ → ℕ → ℤ
weighed row parts n = floor (weighed_to 12 row parts n +ℤ pos (2 ^ 13)) (2 ^ 14)

-- the cosines of the turns back of the 192 carriers from carrier 15 on, `ahead` sixty-fourths of a turn further
pub record AreBack (guard : Guard) (ahead : ℕ) (cosines : List ℤ) : Type 0 where
  pub is : (j : ℕ) → j < 192 → part_at cosines j ≡ cosine ((63 * ((15 + j) * slope guard) + ahead) % 64)
  pub within : (j : ℕ) → j < 192 → nat_abs (part_at cosines j) ≤ 2 ^ 14
