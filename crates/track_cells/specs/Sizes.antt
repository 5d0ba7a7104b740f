-- The sizes of coefficients.
use Rattle.std.specs.Prelude.{ℕ, zero, suc, ◌+◌, List, get_or, ℤ, pos, nat_abs}

-- the sum of the absolute values of the first n
unfoldable pub size_to : ℕ → List ℤ → ℕ
size_to zero row = 0
size_to (suc n) row = size_to n row + nat_abs (get_or row n (pos 0))
