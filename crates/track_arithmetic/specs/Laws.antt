-- Laws of rounding and of the square root, and bounds that keep sums in range.
use Rattle.std.specs.Prelude.{ℕ, ◌*◌, ◌<◌, ◌≤◌, ℤ, pos, nat_abs, ◌+ℤ◌, ◌*ℤ◌, ◌≤ℤ◌, ◌<ℤ◌}
use Rattle.track_arithmetic.specs.Numbers.{floor, root}
use Rattle.track_arithmetic.specs.declared.complex.Complex.{Complex}

-- neither part exceeds n
pub record IsWithin (n : ℕ) (x : Complex) : Type 0 where
  pub re : nat_abs x.re ≤ n
  pub im : nat_abs x.im ≤ n

-- q is x / n rounded down
pub record IsFloorOf (x : ℤ) (n : ℕ) (q : ℤ) : Type 0 where
  pub above : (pos n *ℤ q) ≤ℤ x
  pub below : x <ℤ (pos n *ℤ q +ℤ pos n)

-- every quotient is rounded down
abbrev pub QuotientsAreRoundedDown : Type 0
QuotientsAreRoundedDown = (x : ℤ) (n : ℕ) → 0 < n → IsFloorOf x n (floor x n)

-- s is the greatest number whose square is at most n
pub record IsRoot (n s : ℕ) : Type 0 where
  pub within : s * s ≤ n
  pub greatest : (t : ℕ) → t * t ≤ n → t ≤ s

-- the root is that number
abbrev pub RootIsGreatest : Type 0
RootIsGreatest = (n : ℕ) → IsRoot n (root n)
