use Rattle.std.proofs.Common.{◌≡◌}
use Rattle.test_codes.proofs.tests.decoding.ones_taken.Given as goal

abbrev pub invariant-loop-k : goal.invariant-loop-k
invariant-loop-k g l = record {
  decoder : l.branch.decoder ≡ l.initial.branch.decoder;
  loaded : l.branch.loaded ≡ l.initial.branch.loaded;
  most : l.branch.most ≡ l.initial.branch.most;
}
