-- Rows of bits, one for each state.
use Rattle.std.specs.Prelude.{◌≡◌, ℕ, zero, suc, ◌+◌, ◌<◌, ◌∷◌, ◌++◌, Bool, List, [], length, take, drop}
use Rattle.std.specs.Prelude.{slice_index_or, false, IsTrue, ◌-◌}
use Rattle.std.specs.Global.{Vec}
use Rattle.spec_words.specs.Bits.{is_set}
use Rattle.code_paths.specs.States.{before}

-- rows of bits
abbrev pub Rows : Type 0
Rows = List (Vec Bool)

-- 64 rows of the same length
pub record AreSized (len : ℕ) (rows : Rows) : Type 0 where
  pub number : length rows ≡ 64
  pub each : (k : ℕ) (d : Vec Bool) → k < 64 → length (slice_index_or rows k d).items ≡ len

-- the first bits of row n are those of its predecessor's old row, then the newest bit of n
pub record EachPushed (old new : Rows) (count answer : ℕ) (states : ℕ) : Type 0 where
  pub each : (n : ℕ) (d e : Vec Bool) → n < states → take (count + 1) (slice_index_or new n d).items
      ≡ take count (slice_index_or old (before answer n) e).items ++ is_set n 5 ∷ []

-- the rows of the alive states have the same bit at an index
abbrev pub Agree : Rows → ℕ → ℕ → ℕ → ℕ → Type 0
Agree rows live first place states = (n : ℕ) (d e : Vec Bool) → n < states → IsTrue (is_set live n)
    → slice_index_or (slice_index_or rows n d).items place false
    ≡ slice_index_or (slice_index_or rows first e).items place false

-- each row has lost its first `number` bits
pub record EachShifted (old new : Rows) (number count : ℕ) (states : ℕ) : Type 0 where
  pub each : (n : ℕ) (d e : Vec Bool) → n < states → take (count - number) (slice_index_or new n d).items
      ≡ drop number (take count (slice_index_or old n e).items)

-- row n, or no bits past the last row
abbrev pub bits_of_row : Rows → ℕ → List Bool
bits_of_row [] n = []
bits_of_row (row ∷ rows) zero = row.items
bits_of_row (row ∷ rows) (suc n) = bits_of_row rows n
