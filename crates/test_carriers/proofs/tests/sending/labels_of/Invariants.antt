use Rattle.std.proofs.Common.{◌≡◌}
use Rattle.test_carriers.proofs.tests.sending.labels_of.Given as goal

abbrev pub invariant-loop-odd : goal.invariant-loop-odd
invariant-loop-odd g l = record {
  tx : l.tx.settings.mode ≡ l.initial.tx.settings.mode;
}
