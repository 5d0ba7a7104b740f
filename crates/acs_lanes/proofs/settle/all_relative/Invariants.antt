use Rattle.std.proofs.Common.{◌≡◌, ◌+◌, ◌<◌, ℕ, length}
use Rattle.std.specs.Prelude.{slice_index, IsTrue, IsFalse}
use Rattle.acs_plain.specs.Steps.{alive}
use Rattle.acs_lanes.specs.Lanes.{far}
use Rattle.acs_lanes.proofs.settle.all_relative.Given as goal

abbrev pub invariant-loop-n : goal.invariant-loop-n
invariant-loop-n l = record {
  size : length l.costs ≡ 64;
  lives : (k : ℕ) → k < l.n → IsTrue (alive l.fn.sums k) → slice_index l.costs k + l.low ≡ slice_index l.fn.sums.cost k;
  dead : (k : ℕ) → k < l.n → IsFalse (alive l.fn.sums k) → slice_index l.costs k ≡ far;
}
