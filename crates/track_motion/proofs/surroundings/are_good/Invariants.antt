-- The places so far.
use Rattle.std.proofs.Common.{◌≡◌, ℕ, ◌*◌, ◌<◌, false, nat_le, nat_lt, length, get_or}
use Rattle.std.specs.Prelude.{◌&&◌}
use Rattle.track_motion.proofs.surroundings.are_good.Given as goal

abbrev pub invariant-loop-p : goal.invariant-loop-p
invariant-loop-p l = record {
  long : length l.good ≡ 16;
  is : (p : ℕ) → p < l.p → get_or l.good p false ≡ ((nat_le l.first p && nat_lt p l.end) && nat_le (get_or l.lesser p 0) (4 * l.middle));
}
