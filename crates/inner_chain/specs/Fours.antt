-- Labels of six bits at rate 2/3: the coded bits of a word are six of the eight parities of four steps.
use Rattle.std.specs.Prelude.{◌≡◌, ℕ, ◌+◌, ◌*◌, ◌/◌, ◌%◌, ◌<◌, Bool, List, [], ◌∷◌, ◌++◌, length, slice_index}
use Rattle.spec_words.specs.Bits.{is_set}
use Rattle.mode_set.specs.StreamTable.{payload}
use Rattle.mode_set.specs.declared.modes.Mode.{Mode}
use Rattle.bit_interleave.specs.Place.{offset}
use Rattle.symbol_interleave.specs.Carried.{carried}
use Rattle.inner_chain.specs.Tables.{read_bit}

-- the word whose coded bits have bit e of word w: the bit interleaver turns each block of 126 words
abbrev pub turned : ℕ → ℕ → ℕ
turned e w = 126 * (w / 126) + (w % 126 + offset e) % 126

-- bit e of a label among the parities X, Y, X, Y .. of four steps
abbrev pub parity_place : ℕ → ℕ
parity_place e = slice_index (0 ∷ 4 ∷ 1 ∷ 5 ∷ 3 ∷ 7 ∷ []) e

-- the first n bytes of a list have these bits, eight a byte and the first one the lowest
pub record ArePacked (xs : List Bool) (n : ℕ) (bytes : List ℕ) : Type 0 where
  pub at : (k i : ℕ) → k < n → i < 8 → is_set (slice_index bytes k) i ≡ read_bit xs (8 * k + i)

-- the first n words of a list are those that the bit interleaver makes of the words' parities
pub record AreTurned (bytes : List ℕ) (n : ℕ) (words : List ℕ) : Type 0 where
  pub small : (w : ℕ) → w < n → slice_index words w < 64
  pub at : (w e : ℕ) → w < n → e < 6 → is_set (slice_index words w) e ≡ is_set (slice_index bytes (turned e w))
      (parity_place e)

-- the words that n payload carriers carry are appended to a list
pub record AppendsCarried (words : List ℕ) (m : Mode) (odd : Bool) (n : ℕ) (old new : List ℕ) : Type 0 where
  pub labels : List ℕ
  pub is : new ≡ old ++ labels
  pub long : length labels ≡ n
  pub within : (q : ℕ) → q < n → carried m odd q < payload m
  pub at : (q : ℕ) → q < n → slice_index labels q ≡ slice_index words (carried m odd q)

-- at rate 1/2 and two bits a word: the first n words of a list have X of a step of their own and Y of a turned one
pub record ArePairs (xs : List Bool) (n : ℕ) (words : List ℕ) : Type 0 where
  pub small : (w : ℕ) → w < n → slice_index words w < 4
  pub at : (w e : ℕ) → w < n → e < 2 → is_set (slice_index words w) e ≡ read_bit xs (2 * turned e w + e)
