-- The space for a symbol stays.
use Rattle.std.proofs.Common.{◌≤◌}
use Rattle.std.specs.Prelude.{vec_capacity}
use Rattle.test_receiver.proofs.tests.super_frames.super_frames_of.Given as goal

abbrev pub invariant-loop : goal.invariant-loop
invariant-loop g l = 34085 ≤ vec_capacity l.bytes
