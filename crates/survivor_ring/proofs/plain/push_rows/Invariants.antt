use Rattle.survivor_ring.specs.Rows.{AreSized, EachPushed}
use Rattle.survivor_ring.proofs.plain.push_rows.Given as goal

abbrev pub invariant-loop-n : goal.invariant-loop-n
invariant-loop-n l = AreSized l.len l.next.items × EachPushed l.now.items l.next.items l.count l.decisions l.n
