use Rattle.std.proofs.Common.{◌≡◌, ◌+◌, length}
use Rattle.test_codes.proofs.tests.decoding.load.Given as goal

abbrev pub invariant-loop-k : goal.invariant-loop-k
invariant-loop-k g l = record {
  decoder : l.branch.decoder ≡ l.initial.branch.decoder;
  most : l.branch.most ≡ l.initial.branch.most;
  wait : l.branch.wait ≡ l.initial.branch.wait;
  loaded : length l.branch.loaded ≡ length l.initial.branch.loaded + l._k;
}
