use Rattle.survivor_ring.specs.Rows.{Agree}
use Rattle.survivor_ring.proofs.plain.agree.Given as goal

abbrev pub invariant-loop-n : goal.invariant-loop-n
invariant-loop-n l = Agree l.rows.items l.states l.first l.place l.n
