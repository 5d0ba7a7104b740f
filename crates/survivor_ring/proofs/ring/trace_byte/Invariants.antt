use Rattle.survivor_ring.proofs.Eights.{Walked}
use Rattle.survivor_ring.proofs.ring.trace_byte.Given as goal

abbrev pub invariant-loop-k : goal.invariant-loop-k
invariant-loop-k l = Walked l.words l.state l.k l.walk
