use Rattle.std.proofs.Common.{◌≡◌, ◌<◌, ◌≤◌, ℕ}
use Rattle.std.specs.Prelude.{slice_index}
use Rattle.acs_lanes.proofs.lanes16.least_lane.Given as goal

abbrev pub invariant-loop-k : goal.invariant-loop-k
invariant-loop-k l = record {
  below : (j : ℕ) → j < l.k → l.low ≤ slice_index l.all j;
  attained : (j : ℕ) × (j < 16) × (slice_index l.all j ≡ l.low);
}
