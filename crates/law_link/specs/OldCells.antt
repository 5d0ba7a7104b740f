-- Cells of version 1 and their upgrade (this project's own): symbols in order, carriers rising, four bytes a cell, the
-- real then the imaginary part.
use Rattle.std.specs.Prelude.{ℕ, ◌+◌, ◌*◌, ◌/◌, ◌%◌, List, [], ◌∷◌, ◌++◌, length, map, flat_map, take, drop}
use Rattle.std.specs.Int.{cast_signed, w16}
use Rattle.byteorder.specs.Endian.{big_number}
use Rattle.spec_words.specs.Words.{numbers}
use Rattle.mode_set.specs.StreamTable.{carriers}
use Rattle.mode_set.specs.declared.modes.Mode.{Mode}
use Rattle.qam_map.specs.declared.cell.Cell.{Cell}
use Rattle.soft_metric.specs.Weights.{full_weight}

-- the bytes of a symbol
abbrev pub old_symbol_length : Mode → ℕ
old_symbol_length mode = 4 * carriers mode

-- the number of whole symbols in old bytes
abbrev pub old_symbols : Mode → List ℕ → ℕ
old_symbols mode bytes = length bytes / old_symbol_length mode

-- the number of old bytes after the whole symbols
abbrev pub old_tail : Mode → List ℕ → ℕ
old_tail mode bytes = length bytes % old_symbol_length mode

-- old cell k, counted from the first cell of the file
unfoldable pub old_cell_from : List ℕ → ℕ → Cell
old_cell_from bytes k = record {
  re = cast_signed w16 (big_number 2 (drop (4 * k) bytes));
  im = cast_signed w16
      (big_number 2 (drop (4 * k + 2) bytes));
}

-- the old cells of symbol m
unfoldable pub old_symbol_cells : Mode → List ℕ → ℕ → List Cell
old_symbol_cells mode bytes m = map (λ k. old_cell_from bytes (m * carriers mode + k)) (numbers (carriers mode))

-- the four bytes of old cell k
abbrev pub old_cell : List ℕ → ℕ → List ℕ
old_cell bytes k = take 4 (drop (4 * k) bytes)

-- the same followed by full weight
abbrev pub upgraded_cell : List ℕ → ℕ → List ℕ
upgraded_cell bytes k = old_cell bytes k ++ full_weight ∷ []

-- the first n cells, upgraded
unfoldable pub upgraded_cells : ℕ → List ℕ → List ℕ
upgraded_cells n bytes = flat_map (upgraded_cell bytes) (numbers n)

-- the cells of all whole symbols
abbrev pub upgraded : Mode → List ℕ → List ℕ
upgraded mode bytes = upgraded_cells (old_symbols mode bytes * carriers mode) bytes
