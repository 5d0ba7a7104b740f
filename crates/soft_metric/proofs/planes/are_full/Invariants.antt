use Rattle.std.proofs.Common.{◌<◌, ◌≤◌, ℕ}
use Rattle.std.specs.Prelude.{slice_index}
use Rattle.soft_metric.proofs.planes.are_full.Given as goal

abbrev pub invariant-loop-k : goal.invariant-loop-k
invariant-loop-k l = record {
  most : l.least ≤ 15;
  least : (j : ℕ) → j < l.k → l.least ≤ slice_index l.fn.weights j;
}
