-- The visible state of the known bits of a stream.
use Rattle.std.specs.Prelude.{ℕ, Bool, List}

-- the known bits that the encoder has not passed, the number of steps before the next symbol that it has not passed,
-- and the number of all steps before it
pub record KnownState : Type 0 where
  pub waiting : List Bool
  pub lag : ℕ
  pub before : ℕ
