use Rattle.std.proofs.Common.{◌≡◌, ◌≤◌, true, false, vec_capacity}
use Rattle.test_conversions.proofs.tests.trackers.track_all.Given as goal

-- at most one symbol for each pass of the loop was taken
abbrev pub invariant-loop-m : goal.invariant-loop-m
invariant-loop-m g l = record {
  count : l.tracker.window.count ≤ l.m-counter;
  going : l.tracker.ended ≡ false;
  room : 8525 ≤ vec_capacity l.room;
}

abbrev pub invariant-loop-m-2 : goal.invariant-loop-m-2
invariant-loop-m-2 g l = record {
  ended : l.tracker.ended ≡ true;
  room : 8525 ≤ vec_capacity l.room;
}
