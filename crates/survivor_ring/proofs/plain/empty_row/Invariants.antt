use Rattle.std.proofs.Common.{◌≡◌, vec_len}
use Rattle.survivor_ring.proofs.plain.empty_row.Given as goal

abbrev pub invariant-loop-k : goal.invariant-loop-k
invariant-loop-k l = vec_len l.bits ≡ l._k
