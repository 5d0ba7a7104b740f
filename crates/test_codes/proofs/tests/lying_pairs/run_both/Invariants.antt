use Rattle.std.proofs.Common.{◌≡◌, ◌≤◌, []}
use Rattle.std.specs.Prelude.{false}
use Rattle.test_codes.proofs.tests.lying_pairs.run_both.Given as goal

abbrev pub invariant-loop-end : goal.invariant-loop-end
invariant-loop-end g l = record {
  from : l.from ≤ 6000;
  most : l.loading.most ≡ 6000;
  loading_going : l.loading.decoder.ended ≡ false;
  loading_steps : l.loading.decoder.steps ≡ l.from;
  loading_loaded : l.loading.loaded ≡ [];
  lending_going : l.lending.decoder.ended ≡ false;
  lending_steps : l.lending.decoder.steps ≡ l.from;
  lending_loaded : l.lending.loaded ≡ [];
}
