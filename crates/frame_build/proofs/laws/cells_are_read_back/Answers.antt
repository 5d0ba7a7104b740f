-- Cell by cell.
use Rattle.frame_build.proofs.ReadBack.{five_bytes_a_cell, cells_are_read_back, weights_are_read_back}
use Rattle.frame_build.proofs.laws.cells_are_read_back.Goals as goal

pub returns-clause-long : goal.returns-clause-long
returns-clause-long c = five_bytes_a_cell

pub returns-clause-cells : goal.returns-clause-cells
returns-clause-cells c = cells_are_read_back

pub returns-clause-weights : goal.returns-clause-weights
returns-clause-weights c = weights_are_read_back
