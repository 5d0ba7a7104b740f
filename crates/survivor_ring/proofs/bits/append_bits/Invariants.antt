use Rattle.std.proofs.Common.{◌≡◌, ◌++◌, take}
use Rattle.survivor_ring.proofs.bits.append_bits.Given as goal

abbrev pub invariant-loop-k : goal.invariant-loop-k
invariant-loop-k l = l.to ≡ l.fn.to ++ take l.k l.bits
