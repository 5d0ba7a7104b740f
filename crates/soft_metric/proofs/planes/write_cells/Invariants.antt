use Rattle.std.proofs.Common.{◌+◌, ◌-◌, ◌<◌, ◌≤◌, ℕ, length}
use Rattle.mode_set.specs.StreamTable.{label_bits}
use Rattle.soft_metric.specs.Planes.{IsWrittenAt, WritesCosts}
use Rattle.soft_metric.proofs.planes.write_cells.Given as goal

abbrev pub invariant-loop-q : goal.invariant-loop-q
invariant-loop-q g l = record {
  writes : WritesCosts l.fn.axes.shape l.fn.axes.hierarchy l.fn.cells l.fn.weights l.fn.to l.to;
  here : (k e : ℕ) → k < l.q → e < label_bits l.fn.axes.shape → IsWrittenAt l.fn.axes.shape l.fn.axes.hierarchy l.fn.cells l.fn.weights l.to e k;
  within : l.q ≤ length l.fn.cells;
}

abbrev pub decreases-loop-q : goal.decreases-loop-q
decreases-loop-q g l = length l.cells + 1 - l.q

abbrev pub invariant-loop-q-2 : goal.invariant-loop-q-2
invariant-loop-q-2 g l = record {
  writes : WritesCosts l.fn.axes.shape l.fn.axes.hierarchy l.fn.cells l.fn.weights l.fn.to l.to;
  here : (k e : ℕ) → k < l.q → e < label_bits l.fn.axes.shape → IsWrittenAt l.fn.axes.shape l.fn.axes.hierarchy l.fn.cells l.fn.weights l.to e k;
  within : l.q ≤ length l.fn.cells;
}

abbrev pub decreases-loop-q-2 : goal.decreases-loop-q-2
decreases-loop-q-2 g l = length l.cells - l.q
