use Rattle.std.proofs.Common.{◌≡◌, ◌+◌, ◌<◌, ◌≤◌, ℕ, length}
use Rattle.std.specs.Prelude.{slice_index}
use Rattle.soft_metric.specs.Squares.{pair_at}
use Rattle.soft_metric.proofs.planes.put_pairs.Given as goal

abbrev pub invariant-loop-k : goal.invariant-loop-k
invariant-loop-k l = record {
  long : length l.to ≡ length l.initial.to;
  here : (j : ℕ) → j < l.k → pair_at l.to (l.fn.first + j) ≡ (slice_index l.fn.zero j, slice_index l.fn.one j);
  below : (j : ℕ) → j < l.fn.first → pair_at l.to j ≡ pair_at l.initial.to j;
  above : (j : ℕ) → l.fn.first + 16 ≤ j → pair_at l.to j ≡ pair_at l.initial.to j;
}
