-- The cells of a file, corrected by the pilots of their own symbols (EN 300 744, 4.5; the cell file is this project's
-- own). A file begins at the first symbol of a super-frame, so its symbol n is symbol n mod 68 of a frame.
use Rattle.std.specs.Prelude.{◌≡◌, ℕ, ◌*◌, List, [], Some, length}
use Rattle.mode_set.specs.StreamTable.{carriers}
use Rattle.mode_set.specs.declared.modes.Mode.{Mode}
use Rattle.frame_build.specs.CellFile.{header}
use Rattle.cell_equal.specs.Files.{equalised_symbol}
use Rattle.cmd_convert.specs.Conversion.{Conversion}

-- the correction of a file: both files have the header of the mode, and five bytes a cell
abbrev pub equalisation : Mode → Conversion
equalisation mode = record {
  old_header = Some (header mode);
  size = 5 * carriers mode;
  new_header = header mode;
  new_symbol = equalised_symbol mode;
}

-- no byte of the next symbol was taken, and there is space for it after correction
pub record IsEmpty (mode : Mode) (taken room : List ℕ) : Type 0 where
  pub none : taken ≡ []
  pub room_of : length room ≡ 5 * carriers mode
