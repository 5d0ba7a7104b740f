use Rattle.std.proofs.Common.{◌≡◌}
use Rattle.std.specs.Prelude.{vec_len}
use Rattle.test_faults.proofs.tests.gated_pieces.some_pairs.Given as goal

abbrev pub invariant-loop-k : goal.invariant-loop-k
invariant-loop-k l = vec_len l.pairs ≡ l.k
