use Rattle.std.proofs.Common.{◌≡◌, ◌+◌, ◌<◌, ℕ, length}
use Rattle.std.specs.Prelude.{slice_index, slice_index_or}
use Rattle.qam_map.specs.Cells.{cell_of}
use Rattle.qam_map.specs.declared.cell.Cell.{Cell}
use Rattle.inner_chain.proofs.cell_costs.gather_cells.Given as goal

abbrev pub invariant-loop-q : goal.invariant-loop-q
invariant-loop-q l = record {
  cells : (p : ℕ) (d : Cell) → p < l.q → slice_index_or l.to p d ≡ cell_of l.cells (slice_index l.carrier_table (l.fn.first + p));
  long : length l.to ≡ length l.initial.to;
}
