use Rattle.std.proofs.Common.{◌≡◌, ◌*◌, ◌<◌, [], length}
use Rattle.std.specs.Prelude.{false}
use Rattle.test_codes.proofs.tests.decoding.unmerged.Given as goal

abbrev pub invariant-loop-k : goal.invariant-loop-k
invariant-loop-k g l = record {
  going : l.branch.decoder.ended ≡ false;
  steps : l.branch.decoder.steps ≡ 1512 * l.k;
  most : l.branch.most ≡ 1512;
  loaded : l.branch.loaded ≡ [];
  wait : length l.branch.wait < 8;
}
