use Rattle.std.proofs.Common.{◌≡◌}
use Rattle.test_carriers.proofs.tests.receiving.costs_by.Given as goal

abbrev pub invariant-loop-l : goal.invariant-loop-l
invariant-loop-l g l = record {
  rx : l.rx.mode ≡ l.initial.rx.mode;
}
