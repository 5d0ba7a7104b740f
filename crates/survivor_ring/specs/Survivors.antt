-- The pending bits of the paths to the alive states. `waits n` are those of state n, `live` is the word of alive
-- states.
use Rattle.std.specs.Prelude.{◌≡◌, ℕ, ◌<◌, ◌≤◌, Bool, List, [], ◌∷◌, ◌++◌, ◌||◌, take, IsTrue}
use Rattle.spec_words.specs.Bits.{is_set}
use Rattle.code_paths.specs.States.{even_of, odd_of, before}
use Rattle.survivor_ring.specs.Ring.{root, trace}

-- after a step each alive state has the bits of its predecessor, then its own newest bit
pub record IsPushed (old : ℕ → List Bool) (word : ℕ) (live : ℕ) (new : ℕ → List Bool) : Type 0 where
  pub each : (n : ℕ) → n < 64 → IsTrue (is_set live n) → new n ≡ old (before word n) ++ is_set n 5 ∷ []

-- the next states are those with an alive predecessor, and the decision word chose an alive one
pub record IsFollowed (old word live : ℕ) : Type 0 where
  pub lives : (n : ℕ) → n < 64 → is_set live n ≡ (is_set old (even_of n) || is_set old (odd_of n))
  pub chose : (n : ℕ) → n < 64 → IsTrue (is_set live n) → IsTrue (is_set old (before word n))

-- after steps on the words in order each state has the bits of the state at the root of its traceback, then those of
-- the states along it
pub record AreAllPushed (old : ℕ → List Bool) (words : List ℕ) (new : ℕ → List Bool) : Type 0 where
  pub each : (n : ℕ) → n < 64 → new n ≡ old (root words n) ++ trace words n

-- the same as a function of the state
abbrev pub all_pushed : (ℕ → List Bool) → List ℕ → ℕ → List Bool
all_pushed old words n = old (root words n) ++ trace words n

-- the first k bits of all alive states are the same
abbrev pub AreAlike : ℕ → (ℕ → List Bool) → ℕ → Type 0
AreAlike live waits k = (m n : ℕ) → m < 64 → n < 64 → IsTrue (is_set live m) → IsTrue (is_set live n) → take k (waits m)
    ≡ take k (waits n)

-- k is the length of the longest common prefix of the bits of all alive states
pub record IsAlike (live : ℕ) (waits : ℕ → List Bool) (waiting k : ℕ) : Type 0 where
  pub within : k ≤ waiting
  pub alike : AreAlike live waits k
  pub most : (j : ℕ) → j ≤ waiting → AreAlike live waits j → j ≤ k

-- the bits given are the first k bits of each alive state
abbrev pub GivesAway : ℕ → (ℕ → List Bool) → ℕ → List Bool → List Bool → Type 0
GivesAway live waits k old new = (n : ℕ) → n < 64 → IsTrue (is_set live n) → new ≡ old ++ take k (waits n)
