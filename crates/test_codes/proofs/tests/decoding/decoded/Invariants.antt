use Rattle.std.proofs.Common.{◌≡◌, ◌+◌, ◌≤◌, length}
use Rattle.std.specs.Prelude.{false}
use Rattle.test_codes.proofs.tests.decoding.decoded.Given as goal

abbrev pub invariant-loop-k : goal.invariant-loop-k
invariant-loop-k g l = record {
  going : l.decoder.ended ≡ false;
  steps : l.decoder.steps ≡ l.k;
  few : l.decoder.waiting ≤ g.row.L;
  amount : length l.to + l.decoder.waiting ≡ l.k;
}
