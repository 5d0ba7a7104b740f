-- The TPS words of received frames (EN 300 744, 4.6; the vote and the rule for readable words are this project's own).
use Rattle.std.specs.Prelude.{◌≡◌, ℕ, ◌+◌, ◌*◌, ◌/◌, ◌<◌, ◌↔◌, IsTrue, Bool, List}
use Rattle.outer_chain.specs.Words.{count}
use Rattle.mode_set.specs.declared.settings.Settings.{Settings}
use Rattle.qam_map.specs.declared.cell.Cell.{Cell}
use Rattle.tps_word.specs.Vote.{tps_cells_of, bit_from, bits_from}
use Rattle.tps_word.specs.Signals.{Signals}
use Rattle.tps_word.specs.declared.word.TpsWord.{TpsWord}
use Rattle.reception.specs.Cells.{symbols, symbol_cells}

-- the cells of the TPS carriers of symbol m
unfoldable pub tps_cells : Settings → List ℕ → ℕ → List Cell
tps_cells s bytes m = tps_cells_of s.mode (symbol_cells s bytes m)

-- bit s_(i+1) of a frame of 68 symbols: the vote of its symbols i and i + 1
abbrev pub frame_bit : (ℕ → List Cell) → ℕ → ℕ → Bool
frame_bit cells frame i = bit_from cells (68 * frame) i

-- s1 to s67 of a frame, from the TPS cells of its symbols
unfoldable pub frame_bits : (ℕ → List Cell) → ℕ → List Bool
frame_bits cells frame = bits_from cells (68 * frame)

-- the bits are within two errors of a word of the code with valid fields
abbrev pub IsReadable : List Bool → Type 0
IsReadable bits = (fields : TpsWord) × Signals bits fields

-- of the first n words `read` are readable, the others are bad
pub record CountsWords (word : ℕ → List Bool) (n read bad : ℕ) : Type 0 where
  pub is_read : ℕ → Bool
  pub reads : (f : ℕ) → f < n → IsTrue (is_read f) ↔ IsReadable (word f)
  pub read_is : read ≡ count is_read n
  pub all : read + bad ≡ n

-- the same for the TPS words of all whole frames of the bytes
abbrev pub CountsFrames : Settings → List ℕ → ℕ → ℕ → Type 0
CountsFrames s bytes read bad = CountsWords (frame_bits (tps_cells s bytes)) (symbols s bytes / 68) read bad
