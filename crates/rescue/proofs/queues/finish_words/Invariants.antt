use Rattle.std.specs.Prelude.{vec_len, vec_capacity}
use Rattle.rescue.proofs.Moving.{FinishesTo}
use Rattle.rescue.proofs.queues.finish_words.Given as goal

abbrev pub invariant-loop-k : goal.invariant-loop-k
invariant-loop-k l = FinishesTo l.k l.bytes l.margins l.initial.words l.words l.initial.to.items l.to.items (vec_len l.initial.to) (vec_len l.to) (vec_capacity l.initial.to) (vec_capacity l.to)
