-- Cells and weights are recovered from their bytes (this project's own format).
use Rattle.std.specs.Prelude.{◌≡◌, ℕ, ◌*◌, ◌<◌, ◌≤◌, List, length, flat_map, get_or, slice_index_or}
use Rattle.std.specs.Int.{w16}
use Rattle.std.specs.Int.RustNames.{FitsSigned}
use Rattle.spec_words.specs.Words.{numbers}
use Rattle.qam_map.specs.declared.cell.Cell.{Cell}
use Rattle.frame_build.specs.Symbol.{cell_bytes, cells_from, weights_from}

-- both parts fit 16 bits, and the weight is at most 15
pub record IsWritable (c : Cell) (weight : ℕ) : Type 0 where
  pub re : FitsSigned w16 c.re
  pub im : FitsSigned w16 c.im
  pub weight_most : weight ≤ 15

-- the bytes of n cells with their weights
abbrev pub bytes_of_cells : (ℕ → Cell) → (ℕ → ℕ) → ℕ → List ℕ
bytes_of_cells cells weights n = flat_map (λ k. cell_bytes (cells k) (weights k)) (numbers n)

-- five bytes for each cell
abbrev pub FiveBytesACell : Type 0
FiveBytesACell = (cells : ℕ → Cell) (weights : ℕ → ℕ) (n : ℕ) → length (bytes_of_cells cells weights n) ≡ 5 * n

-- a writable cell is recovered from its bytes ..
abbrev pub CellsAreReadBack : Type 0
CellsAreReadBack = (cells : ℕ → Cell) (weights : ℕ → ℕ) (n k : ℕ) (other : Cell) → k < n
    → IsWritable (cells k) (weights k) → slice_index_or (cells_from (bytes_of_cells cells weights n) n) k other
    ≡ cells k

-- .. and so is its weight
abbrev pub WeightsAreReadBack : Type 0
WeightsAreReadBack = (cells : ℕ → Cell) (weights : ℕ → ℕ) (n k other : ℕ) → k < n → IsWritable (cells k) (weights k)
    → get_or (weights_from (bytes_of_cells cells weights n) n) k other ≡ weights k
