use Rattle.std.proofs.Common.{◌+◌, ◌<◌, ℕ, get_or}
use Rattle.test_codes.proofs.tests.erasures.may_be_erased.Given as goal

abbrev pub invariant-loop-k : goal.invariant-loop-k
invariant-loop-k l = record {
  rising : (j : ℕ) → j < l.k → j < 7 → get_or l.places j 0 < get_or l.places (j + 1) 0;
  below : (j : ℕ) → j < l.k → get_or l.places j 0 < 204;
}
