use Rattle.std.proofs.Common.{ℕ, ◌<◌}
use Rattle.survivor_ring.specs.Rows.{Agree}
use Rattle.survivor_ring.proofs.plain.shared_bits.Given as goal

abbrev pub invariant-loop-k : goal.invariant-loop-k
invariant-loop-k l = (k : ℕ) → k < l.k → Agree l.rows.items l.states l.first k 64
