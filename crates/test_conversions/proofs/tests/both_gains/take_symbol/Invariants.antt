use Rattle.std.proofs.Common.{◌≡◌, length}
use Rattle.test_conversions.proofs.tests.both_gains.take_symbol.Given as goal

abbrev pub invariant-loop-k : goal.invariant-loop-k
invariant-loop-k l = record { long : length l.cells.items ≡ 1705 }
