-- The labels of a symbol in the order of its words, before the symbol interleaver, and the table by which the carriers
-- find them.
use Rattle.std.specs.Prelude.{◌≡◌, ℕ, ◌+◌, ◌<◌, Bool, List, get_or, length, nat_lt, if◌then◌else◌}
use Rattle.spec_words.specs.Bits.{is_set}
use Rattle.mode_set.specs.StreamTable.{carriers, payload}
use Rattle.mode_set.specs.declared.modes.Mode.{Mode}
use Rattle.pilots.specs.Carriers.{kind}
use Rattle.pilots.specs.Reference.{reference}
use Rattle.symbol_interleave.specs.Carried.{carried, is_odd}
use Rattle.frame_build.specs.State.{index_of}

-- bit e of the label on payload carrier q of an even or odd symbol, if these are the labels of the symbol's words
abbrev pub carried_bits : Mode → Bool → List ℕ → ℕ → ℕ → Bool
carried_bits m odd words q = is_set (get_or words (carried m odd q) 0)

-- the index of a cell in the order of words, from that in the order of carriers: a label's is its word
abbrev pub interleaved : Mode → Bool → ℕ → ℕ
interleaved m odd i = if nat_lt i (payload m) then carried m odd i else i

-- the index of the cell of carrier k of symbol l in the order of words
pub record IsWordIndex (m : Mode) (l k n : ℕ) : Type 0 where
  pub is : n ≡ interleaved m (is_odd l) (index_of m (kind m l k) (reference k))
  pub few : n < payload m + 4
  pub word : index_of m (kind m l k) (reference k) < payload m → n < payload m

-- the indices of the first n carriers of symbol l
pub record AreWordIndices (m : Mode) (l : ℕ) (list : List ℕ) (n : ℕ) : Type 0 where
  pub long : length list ≡ n
  pub at : (k : ℕ) → k < n → IsWordIndex m l k (get_or list k 0)

-- the table of a mode: the indices of the carriers' cells in symbols 0 to 3, and room for the places of all indices
pub record IsWordTable (m : Mode) (first second third fourth places : List ℕ) : Type 0 where
  pub zero_is : AreWordIndices m 0 first (carriers m)
  pub one_is : AreWordIndices m 1 second (carriers m)
  pub two_is : AreWordIndices m 2 third (carriers m)
  pub three_is : AreWordIndices m 3 fourth (carriers m)
  pub room : length places ≡ payload m + 4
