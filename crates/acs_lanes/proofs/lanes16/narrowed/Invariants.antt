use Rattle.std.proofs.Common.{◌≡◌, ◌+◌, ◌<◌, ◌≤◌, ℕ, length}
use Rattle.std.specs.Prelude.{slice_index}
use Rattle.acs_lanes.specs.Lanes16.{state_at}
use Rattle.acs_lanes.proofs.lanes16.narrowed.Given as goal

abbrev pub invariant-loop-p : goal.invariant-loop-p
invariant-loop-p l = record {
  size : length l.lanes ≡ 64;
  is : (k : ℕ) → k < l.p → slice_index l.lanes k + l.low ≡ slice_index l.fn.costs (state_at k);
  few : (k : ℕ) → k < l.p → slice_index l.lanes k ≤ 49140;
}
