-- The places so far.
use Rattle.std.proofs.Common.{◌≡◌, ℕ, ◌<◌, false, nat_le, nat_lt, length, get_or}
use Rattle.std.specs.Prelude.{◌&&◌}
use Rattle.track_motion.proofs.surroundings.are_there.Given as goal

abbrev pub invariant-loop-p : goal.invariant-loop-p
invariant-loop-p l = record {
  long : length l.there ≡ 16;
  is : (p : ℕ) → p < l.p → get_or l.there p false ≡ (nat_le l.first p && nat_lt p l.end);
}
