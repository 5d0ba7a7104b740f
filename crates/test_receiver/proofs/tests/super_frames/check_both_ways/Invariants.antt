-- The space for a symbol stays.
use Rattle.std.proofs.Common.{◌≤◌}
use Rattle.std.specs.Prelude.{vec_capacity}
use Rattle.test_receiver.proofs.tests.super_frames.check_both_ways.Given as goal

abbrev pub invariant-loop-number : goal.invariant-loop-number
invariant-loop-number g l = 34085 ≤ vec_capacity l.appended
