use Rattle.std.proofs.Common.{◌≡◌, ◌+◌, ◌/◌, ◌%◌, ◌<◌, ℕ, length}
use Rattle.std.specs.Prelude.{slice_index, slice_index_or}
use Rattle.qam_map.specs.Points.{on_axis}
use Rattle.qam_map.specs.declared.cell.Cell.{Cell}
use Rattle.soft_metric.specs.Squares.{lane_value}
use Rattle.soft_metric.proofs.planes.lanes_from.Given as goal

abbrev pub invariant-loop-k : goal.invariant-loop-k
invariant-loop-k l = record {
  size : length l.lanes ≡ 16;
  real : (j : ℕ) (d : Cell) → j < l.k → lane_value (slice_index l.lanes j % 65536) ≡ on_axis (slice_index_or l.fn.cells (l.fn.first + j) d) 0;
  imaginary : (j : ℕ) (d : Cell) → j < l.k → lane_value (slice_index l.lanes j / 65536) ≡ on_axis (slice_index_or l.fn.cells (l.fn.first + j) d) 1;
}
