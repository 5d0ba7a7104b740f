use Rattle.std.proofs.Common.{◌≡◌, length}
use Rattle.std.specs.Prelude.{false}
use Rattle.test_codes.proofs.tests.margins.margins_of.Given as goal

abbrev pub invariant-loop-k : goal.invariant-loop-k
invariant-loop-k l = record {
  going : l.margins.ended ≡ false;
  waiting : length l.margins.waiting ≡ l.k;
}
