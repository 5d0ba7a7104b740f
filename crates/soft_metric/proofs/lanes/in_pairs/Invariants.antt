use Rattle.std.proofs.Common.{◌≡◌, ◌<◌, ℕ, length}
use Rattle.std.specs.Prelude.{slice_index}
use Rattle.soft_metric.specs.Squares.{pair_at}
use Rattle.soft_metric.proofs.lanes.in_pairs.Given as goal

abbrev pub invariant-loop-k : goal.invariant-loop-k
invariant-loop-k l = record {
  size : length l.pairs ≡ 16;
  at : (j : ℕ) → j < l.k → pair_at l.pairs j ≡ (slice_index l.fn.zero j, slice_index l.fn.one j);
}
