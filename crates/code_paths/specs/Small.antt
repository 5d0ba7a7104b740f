-- The bound of a cost (this project's profile).
use Rattle.std.specs.Prelude.{ℕ, ◌≤◌}

-- no cost exceeds 4095
pub record IsSmall (x0 x1 y0 y1 : ℕ) : Type 0 where
  pub x0_small : x0 ≤ 4095
  pub x1_small : x1 ≤ 4095
  pub y0_small : y0 ≤ 4095
  pub y1_small : y1 ≤ 4095
