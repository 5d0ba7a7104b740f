use Rattle.std.proofs.Common.{◌≡◌, ◌<◌, ◌≤◌, ◌*◌, ◌/◌, ℕ, length, map}
use Rattle.std.specs.Prelude.{slice_index}
use Rattle.acs_lanes.specs.Phases.{sum_word}
use Rattle.acs_lanes.proofs.FourSums.{AreMost}
use Rattle.acs_lanes.proofs.cost_sums.write_sums.Given as goal

abbrev pub invariant-loop-k : goal.invariant-loop-k
invariant-loop-k l = record {
  few : l.k ≤ length l.pairs / 4;
  long : length l.words ≡ length l.pairs;
  lanes : length l.most ≡ 16;
  sums : (i : ℕ) → i < 4 * l.k → slice_index l.words i ≡ slice_index (map sum_word l.pairs) i;
  most : AreMost l.pairs (4 * l.k) l.most;
}
