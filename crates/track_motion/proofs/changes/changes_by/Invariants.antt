-- The places so far have their changes.
use Rattle.std.proofs.Common.{◌≡◌, ℕ, ◌+◌, ◌%◌, ◌<◌, length, get_or}
use Rattle.track_motion.proofs.changes.changes_by.Given as goal

abbrev pub invariant-loop-p : goal.invariant-loop-p
invariant-loop-p l = record {
  long : length l.changes ≡ 16;
  is : (p : ℕ) → p < l.p → get_or l.changes p 0 ≡ get_or l.kept ((l.m + p + 9) % 16) 0;
}
