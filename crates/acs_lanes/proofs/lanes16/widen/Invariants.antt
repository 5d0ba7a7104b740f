use Rattle.std.proofs.Common.{◌≡◌, ◌<◌, ℕ, length}
use Rattle.std.specs.Prelude.{slice_index}
use Rattle.acs_lanes.specs.Lanes16.{joined, place}
use Rattle.acs_lanes.proofs.lanes16.widen.Given as goal

abbrev pub invariant-loop-n : goal.invariant-loop-n
invariant-loop-n l = record {
  size : length l.cost ≡ 64;
  is : (k : ℕ) → k < l.n → slice_index l.cost k ≡ slice_index (joined l.fn.lanes.a l.fn.lanes.b l.fn.lanes.c l.fn.lanes.d) (place k);
}
