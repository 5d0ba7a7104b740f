-- The bits of decision words, and the traceback through them.
use Rattle.std.specs.Prelude.{◌≡◌, ℕ, ◌+◌, ◌-◌, ◌*◌, ◌/◌, ◌%◌, ◌<◌, ◌≤◌, ◌==◌, length, slice_index, Bool, true, false}
use Rattle.std.specs.Prelude.{cond, not, ◌&&◌, ◌||◌, List, [], ◌∷◌, ◌++◌, IsTrue, ◌⊎◌}
use Rattle.spec_words.specs.Bits.{bit, is_set}
use Rattle.code_paths.specs.States.{before}

-- the state before the oldest of these words, if n is the state after the newest
abbrev pub root : List ℕ → ℕ → ℕ
root [] n = n
root (d ∷ ws) n = before d (root ws n)

-- the bits of the states along the traceback
abbrev pub trace : List ℕ → ℕ → List Bool
trace [] n = []
trace (d ∷ ws) n = is_set (root ws n) 5 ∷ trace ws n

-- The bits from position `from` on were written. `last` has up to eight bits from there, most significant first; each
-- byte that begins at or after it has its eight.
pub record IsTraced (bits : List Bool) (from last : ℕ) (bytes : List ℕ) : Type 0 where
  pub last_is : (j : ℕ) → j < 8 → from + j < length bits → is_set last (7 - j) ≡ bit bits (from + j)
  pub bytes_are : (b j : ℕ) → j < 8 → from ≤ 8 * b → 8 * b + j < length bits → is_set (slice_index bytes b) (7 - j)
      ≡ bit bits (8 * b + j)

-- one more word: the trace of the predecessor state, then the newest bit of the state
abbrev pub TraceFollows : Type 0
TraceFollows = (words : List ℕ) (word n : ℕ) → trace (words ++ word ∷ []) n ≡ trace words (before word n) ++ is_set n 5
    ∷ []

-- a state of the set and its decision lead back to m
abbrev pub leads : ℕ → ℕ → ℕ → ℕ → Bool
leads set word m n = is_set set n && cond (m % 2 == 1) (is_set word n) (not (is_set word n))

-- the predecessors of the states of a set, by their decisions
pub record AreBefore (set word result : ℕ) : Type 0 where
  pub each : (m : ℕ) → m < 64 → is_set result m ≡ (leads set word m (m / 2) || leads set word m (m / 2 + 32))

-- two states of a set that differ in the newest bit
pub record IsSplit (set : ℕ) : Type 0 where
  pub low : ℕ
  pub high : ℕ
  pub low_below : low < 64
  pub high_below : high < 64
  pub low_in : IsTrue (is_set set low)
  pub high_in : IsTrue (is_set set high)
  pub low_bit : is_set low 5 ≡ false
  pub high_bit : is_set high 5 ≡ true

-- all states of a set have the same newest bit
pub record IsUniform (set : ℕ) : Type 0 where
  pub same : (m n : ℕ) → m < 64 → n < 64 → IsTrue (is_set set m) → IsTrue (is_set set n) → is_set m 5 ≡ is_set n 5

-- a set of one state
pub record IsSingle (set : ℕ) : Type 0 where
  pub state : ℕ
  pub only : (n : ℕ) → n < 64 → IsTrue (is_set set n) → n ≡ state

-- if the set is uniform the answer stays, otherwise it becomes the index
abbrev pub Chosen : ℕ → ℕ → ℕ → ℕ → Type 0
Chosen set index old new = (IsUniform set × (new ≡ old)) ⊎ (IsSplit set × (new ≡ index))
