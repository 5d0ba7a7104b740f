-- The upgrade of a cell file of version 1 (this project's own).
use Rattle.std.specs.Prelude.{◌≡◌, ℕ, ◌*◌, List, ◌++◌, length, None}
use Rattle.mode_set.specs.StreamTable.{carriers}
use Rattle.mode_set.specs.declared.modes.Mode.{Mode}
use Rattle.frame_build.specs.CellFile.{header}
use Rattle.law_link.specs.OldCells.{old_symbol_length, upgraded, upgraded_cells}
use Rattle.cmd_convert.specs.Conversion.{Conversion}

-- the upgrade of a file: the old one has no header and four bytes a cell; each cell gets a weight
abbrev pub upgrading : Mode → Conversion
upgrading mode = record {
  old_header = None;
  size = old_symbol_length mode;
  new_header = header mode;
  new_symbol = λ n bytes. upgraded_cells (carriers mode) bytes;
}

-- the file of version 2: its header, then the cells of all whole symbols
abbrev pub upgraded_file : Mode → List ℕ → List ℕ
upgraded_file mode bytes = header mode ++ upgraded mode bytes

-- space for a symbol of version 2
abbrev pub IsRoom : Mode → List ℕ → Type 0
IsRoom mode room = length room ≡ 5 * carriers mode
