-- Each part is limited to 16 bits, and each weight is at most 15.
use Rattle.cell_equal.proofs.Cells.{corrected_are_cells}
use Rattle.cell_equal.proofs.laws.corrected_are_cells.Goals as goal

pub returns : goal.returns
returns c = corrected_are_cells
