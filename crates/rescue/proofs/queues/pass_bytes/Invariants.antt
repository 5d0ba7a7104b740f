use Rattle.std.specs.Prelude.{vec_capacity}
use Rattle.rescue.proofs.Moving.{PassesTo}
use Rattle.rescue.proofs.queues.pass_bytes.Given as goal

abbrev pub invariant-loop-k : goal.invariant-loop-k
invariant-loop-k l = PassesTo l.initial.branch l._k l.branch l.initial.to.items l.to.items (vec_capacity l.initial.to) (vec_capacity l.to)
