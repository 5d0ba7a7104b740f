use Rattle.std.proofs.Common.{◌≡◌, ◌*◌, ◌++◌, take}
use Rattle.survivor_ring.proofs.bits.append_bytes.Given as goal

abbrev pub invariant-loop-k : goal.invariant-loop-k
invariant-loop-k l = l.to ≡ l.fn.to ++ take (8 * l.k) l.row
