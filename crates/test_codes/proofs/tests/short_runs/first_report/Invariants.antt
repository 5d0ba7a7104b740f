use Rattle.std.proofs.Common.{◌≡◌, ◌+◌, ◌≤◌, length}
use Rattle.std.specs.Prelude.{false}
use Rattle.test_codes.proofs.tests.short_runs.first_report.Given as goal

abbrev pub invariant-loop-k : goal.invariant-loop-k
invariant-loop-k g l = record {
  going : l.decoder.ended ≡ false;
  steps : l.decoder.steps ≡ l._k;
  few : l.decoder.waiting ≤ 8;
  amount : length l.to + l.decoder.waiting ≡ l._k;
}
