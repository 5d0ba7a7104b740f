-- The bytes, cells and weights of symbols (this project's own format: five bytes a carrier, carriers rising).
use Rattle.std.specs.Prelude.{ℕ, ◌*◌, ◌/◌, ◌%◌, List, length, take, drop}
use Rattle.mode_set.specs.StreamTable.{carriers}
use Rattle.mode_set.specs.declared.settings.Settings.{Settings}
use Rattle.qam_map.specs.declared.cell.Cell.{Cell}
use Rattle.frame_build.specs.Symbol.{cells_from, weights_from}

-- the bytes of a symbol: five for each of K carriers
abbrev pub symbol_length : Settings → ℕ
symbol_length s = 5 * carriers s.mode

-- the number of whole symbols in the bytes
abbrev pub symbols : Settings → List ℕ → ℕ
symbols s bytes = length bytes / symbol_length s

-- the number of bytes after them
abbrev pub tail : Settings → List ℕ → ℕ
tail s bytes = length bytes % symbol_length s

-- the bytes of symbol m
unfoldable pub bytes_of_symbol : Settings → List ℕ → ℕ → List ℕ
bytes_of_symbol s bytes m = take (symbol_length s) (drop (m * symbol_length s) bytes)

-- its cells
unfoldable pub symbol_cells : Settings → List ℕ → ℕ → List Cell
symbol_cells s bytes m = cells_from (bytes_of_symbol s bytes m) (carriers s.mode)

-- their weights
unfoldable pub symbol_weights : Settings → List ℕ → ℕ → List ℕ
symbol_weights s bytes m = weights_from (bytes_of_symbol s bytes m) (carriers s.mode)
