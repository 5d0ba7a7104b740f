use Rattle.std.proofs.Common.{◌≤◌, ◌-◌, length}
use Rattle.test_codes.proofs.tests.streams.put_in_runs.Given as goal

abbrev pub invariant-loop-taken : goal.invariant-loop-taken
invariant-loop-taken l = l.taken ≤ length l.bytes

abbrev pub decreases-loop-taken : goal.decreases-loop-taken
decreases-loop-taken l = length l.bytes - l.taken
