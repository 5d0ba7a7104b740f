use Rattle.std.specs.Prelude.{vec_len, vec_capacity}
use Rattle.rescue.proofs.Moving.{PushesTo}
use Rattle.rescue.proofs.blocks.push_pairs.Given as goal

abbrev pub invariant-loop-k : goal.invariant-loop-k
invariant-loop-k l = PushesTo l.k l.pairs l.initial.margins l.margins l.initial.to.items l.to.items (vec_len l.initial.to) (vec_len l.to) (vec_capacity l.initial.to) (vec_capacity l.to) (vec_capacity l.initial.block) (vec_capacity l.block)
