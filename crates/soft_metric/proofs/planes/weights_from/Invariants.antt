use Rattle.std.proofs.Common.{◌≡◌, ◌+◌, ◌<◌, ℕ, length}
use Rattle.std.specs.Prelude.{slice_index}
use Rattle.soft_metric.proofs.planes.weights_from.Given as goal

abbrev pub invariant-loop-k : goal.invariant-loop-k
invariant-loop-k l = record { size : length l.lanes ≡ 16; at : (j : ℕ) → j < l.k → slice_index l.lanes j ≡ slice_index l.fn.weights (l.fn.first + j) }
