-- The symbols that a ring has received.
use Rattle.std.specs.Prelude.{◌≡◌, ℕ, ◌+◌, ◌*◌, ◌%◌, ◌^◌, ◌<◌, ◌≤◌, List, [], length, get_or, slice_index}
use Rattle.qam_map.specs.Cells.{cell_of}
use Rattle.qam_map.specs.declared.cell.Cell.{Cell}
use Rattle.tracking.specs.Tracking.{Symbol}

-- the visible state of a ring: the number of symbols received, and its eight rows of cells and of weights
pub record RingState : Type 0 where
  pub count : ℕ
  pub cells : List Cell
  pub weights : List ℕ

-- eight rows of `carriers` carriers
pub record HasRows (carriers : ℕ) (cells : List Cell) (weights : List ℕ) (count : ℕ) : Type 0 where
  pub cells_long : length cells ≡ 8 * carriers
  pub weights_long : length weights ≡ 8 * carriers
  pub few : count ≤ 2 ^ 32

-- symbol t of a file
abbrev pub symbol_of : List Symbol → ℕ → Symbol
symbol_of symbols t = get_or symbols t (record { cells = []; weights = [] })

-- the ring holds the last eight symbols, symbol t in row t modulo 8
pub record Keeps (carriers : ℕ) (r : RingState) (symbols : List Symbol) : Type 0 where
  pub number : r.count ≡ length symbols
  pub cells : (t k : ℕ) → t < length symbols → length symbols ≤ t + 8 → k < carriers
      → cell_of r.cells ((t % 8) * carriers + k) ≡ cell_of (symbol_of symbols t).cells k
  pub weights : (t k : ℕ) → t < length symbols → length symbols ≤ t + 8 → k < carriers
      → slice_index r.weights ((t % 8) * carriers + k) ≡ slice_index (symbol_of symbols t).weights k
