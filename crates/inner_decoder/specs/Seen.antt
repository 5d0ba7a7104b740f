-- The state of a decoder.
use Rattle.std.specs.Prelude.{◌≡◌, ℕ, zero, suc, ◌≤◌, Bool, List, [], ◌∷◌, ◌++◌}
use Rattle.acs_plain.specs.declared.sums.Sums.{Sums}

-- the path metrics, the pending bits of each of the 64 states (row n for state n), their number for each alive state,
-- the steps so far, and whether the decoder has ended
pub record DecoderState : Type 0 where
  pub sums : Sums
  pub rows : List (List Bool)
  pub waiting : ℕ
  pub steps : ℕ
  pub ended : Bool

-- row n, or no bits past the last row
abbrev pub row_of : List (List Bool) → ℕ → List Bool
row_of [] n = []
row_of (row ∷ rows) zero = row
row_of (row ∷ rows) (suc n) = row_of rows n

-- the first n rows of a function
unfoldable pub rows_below : (ℕ → List Bool) → ℕ → List (List Bool)
rows_below f zero = []
rows_below f (suc n) = rows_below f n ++ f n ∷ []

-- survivors and metrics have the same alive states, and the pending bits fit the path memory
pub record IsTied (states alive count most : ℕ) : Type 0 where
  pub same : states ≡ alive
  pub few : count ≤ most
  pub room : most ≤ 2048
