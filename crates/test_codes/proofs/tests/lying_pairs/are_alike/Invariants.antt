use Rattle.std.proofs.Common.{◌≡◌}
use Rattle.test_codes.proofs.tests.lying_pairs.are_alike.Given as goal

abbrev pub invariant-loop-k : goal.invariant-loop-k
invariant-loop-k g l = record {
  one : l.one ≡ record l.initial.one { wait = l.one.wait };
  other : l.other ≡ record l.initial.other { wait = l.other.wait };
}
