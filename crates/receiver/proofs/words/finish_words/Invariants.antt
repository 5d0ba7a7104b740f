use Rattle.std.specs.Prelude.{vec_len, vec_capacity}
use Rattle.receiver.proofs.Pending.{WritesTo}
use Rattle.receiver.proofs.words.finish_words.Given as goal

abbrev pub invariant-loop-slot : goal.invariant-loop-slot
invariant-loop-slot l = WritesTo l.slot-index l.slots l.initial.outer l.outer l.initial.counts l.counts l.initial.to.items l.to.items (vec_len l.initial.to) (vec_len l.to) (vec_capacity l.initial.to) (vec_capacity l.to)
