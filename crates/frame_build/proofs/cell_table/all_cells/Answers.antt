-- The labels' cells stay, and the others stand behind them.
use Rattle.std.proofs.Common.{◌∙◌, arith}
use Rattle.frame_build.proofs.Cells.{table_made}
use Rattle.frame_build.proofs.cell_table.all_cells.Goals as goal

pub returns : goal.returns
returns c = table_made _ _ _ _ (omega arith) c.label_cells-cells.ensures (c.copy_from_slice.ensures.after ∙ c.other_cells.ensures)
