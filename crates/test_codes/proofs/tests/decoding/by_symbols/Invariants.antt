use Rattle.std.proofs.Common.{◌≡◌, ◌*◌, []}
use Rattle.std.specs.Prelude.{false}
use Rattle.test_codes.proofs.tests.decoding.by_symbols.Given as goal

abbrev pub invariant-loop-k : goal.invariant-loop-k
invariant-loop-k g l = record {
  going : l.branch.decoder.ended ≡ false;
  steps : l.branch.decoder.steps ≡ 1500 * l.k;
  most : l.branch.most ≡ 1500;
  loaded : l.branch.loaded ≡ [];
}
