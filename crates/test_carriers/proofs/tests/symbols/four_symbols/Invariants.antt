use Rattle.std.proofs.Common.{◌≡◌, ◌*◌}
use Rattle.std.specs.Prelude.{vec_len, vec_capacity}
use Rattle.test_carriers.proofs.tests.symbols.four_symbols.Given as goal

abbrev pub invariant-loop-k : goal.invariant-loop-k
invariant-loop-k l = record {
  len : vec_len l.bytes ≡ 8525 * l.k;
  capacity : vec_capacity l.bytes ≡ 34100;
}
