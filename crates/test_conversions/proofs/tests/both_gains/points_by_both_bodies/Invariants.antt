-- at most one symbol for each pass of the loop was taken
use Rattle.std.proofs.Common.{◌≤◌}
use Rattle.track_motion.specs.Kept.{AreLow}
use Rattle.test_conversions.proofs.tests.both_gains.points_by_both_bodies.Given as goal

abbrev pub invariant-loop-t : goal.invariant-loop-t
invariant-loop-t g l = record {
  count : l.window.count ≤ l.t;
  small : AreLow l.kept;
}
