-- The symbols whose pilots give the gain at a point.
use Rattle.std.specs.Prelude.{ℕ, ◌+◌, ◌<◌, ◌≤◌}

-- symbol t is one of the last sixteen of `count` symbols
pub record IsKept (count t : ℕ) : Type 0 where
  pub there : t < count
  pub late : count ≤ t + 16
