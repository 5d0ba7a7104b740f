use Rattle.std.proofs.Common.{◌≡◌, ◌<◌, length}
use Rattle.std.specs.Prelude.{false, vec_len, vec_capacity}
use Rattle.test_codes.proofs.tests.margins.hash_of_drawn.Given as goal

abbrev pub invariant-loop-k : goal.invariant-loop-k
invariant-loop-k l = record {
  going : l.margins.ended ≡ false;
  room : length l.margins.waiting < 1280;
  len : vec_len l.to ≡ 0;
  capacity : vec_capacity l.to ≡ 1279;
}
