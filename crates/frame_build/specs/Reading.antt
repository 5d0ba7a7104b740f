-- Cells and weights that were read from bytes so far.
use Rattle.std.specs.Prelude.{◌≡◌, ℕ, ◌+◌, ◌*◌, ◌<◌, List, drop, get_or, pos, slice_index}
use Rattle.byteorder.specs.Endian.{big_number}
use Rattle.qam_map.specs.declared.cell.Cell.{Cell}
use Rattle.frame_build.specs.Symbol.{cell_from, weight_from}

-- the real and the imaginary parts of three cells from number k on, modulo 2^16
abbrev pub AreParts : List ℕ → ℕ → List ℕ → Type 0
AreParts bytes k parts = (i : ℕ) → i < 3 → (slice_index parts (2 * i) ≡ big_number 2 (drop (5 * (k + i)) bytes))
    × (slice_index parts (2 * i + 1) ≡ big_number 2 (drop (5 * (k + i) + 2) bytes))

-- the first n cells were read
abbrev pub AreCellsTo : List ℕ → List Cell → ℕ → Type 0
AreCellsTo bytes cells n = (j : ℕ) → j < n → get_or cells j (record { re = pos 0; im = pos 0 }) ≡ cell_from bytes j

-- the first n weights were read
abbrev pub AreWeightsTo : List ℕ → List ℕ → ℕ → Type 0
AreWeightsTo bytes weights n = (j : ℕ) → j < n → get_or weights j 0 ≡ weight_from bytes j

-- the first n cells and their weights were read
pub record AreReadTo (bytes : List ℕ) (cells : List Cell) (weights : List ℕ) (n : ℕ) : Type 0 where
  pub cell : AreCellsTo bytes cells n
  pub weight : AreWeightsTo bytes weights n
