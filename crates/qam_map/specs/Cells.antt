-- The cells of a symbol, one for each of its carriers.
use Rattle.std.specs.Prelude.{ℕ, List, slice_index_or, pos}
use Rattle.qam_map.specs.declared.cell.Cell.{Cell}

-- the cell of carrier k
abbrev pub cell_of : List Cell → ℕ → Cell
cell_of cells k = slice_index_or cells k (record { re = pos 0; im = pos 0 })
