use Rattle.std.proofs.Common.{◌<◌, ℕ}
use Rattle.soft_metric.specs.Planes.{IsWrittenAt, WritesCosts}
use Rattle.soft_metric.proofs.planes.write_one.Given as goal

abbrev pub invariant-loop-place : goal.invariant-loop-place
invariant-loop-place l = record {
  writes : WritesCosts l.fn.shape l.fn.hierarchy l.fn.cells l.fn.weights l.initial.to l.to;
  here : (e : ℕ) → e < l.place → IsWrittenAt l.fn.shape l.fn.hierarchy l.fn.cells l.fn.weights l.to e l.fn.q;
}
