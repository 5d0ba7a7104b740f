use Rattle.std.proofs.Common.{◌≡◌}
use Rattle.dispersal.proofs.tests.sequence_begins_as_the_standard_gives_it.Given as goal

abbrev pub invariant-loop-place : goal.invariant-loop-place
invariant-loop-place g l = l.register ≡ l.place
