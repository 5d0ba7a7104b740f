-- A corrected symbol of a cell file. A file begins at the first symbol of a super-frame, so its symbol n is symbol n
-- mod 68 of a frame.
use Rattle.std.specs.Prelude.{ℕ, ◌%◌, List}
use Rattle.mode_set.specs.StreamTable.{carriers}
use Rattle.mode_set.specs.declared.modes.Mode.{Mode}
use Rattle.frame_build.specs.Symbol.{cells_from, weights_from}
use Rattle.cell_equal.specs.Equal.{equalised_bytes}

-- the bytes of symbol n after correction, from its bytes before
unfoldable pub equalised_symbol : Mode → ℕ → List ℕ → List ℕ
equalised_symbol mode n bytes = equalised_bytes mode (n % 68) (cells_from bytes (carriers mode))
    (weights_from bytes (carriers mode))
