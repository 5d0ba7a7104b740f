use Rattle.std.proofs.Common.{◌-◌, ◌++◌, length}
use Rattle.survivor_ring.proofs.Walks.{Walk}
use Rattle.survivor_ring.proofs.ring.shared_words.Given as goal

abbrev pub invariant-loop-k : goal.invariant-loop-k
invariant-loop-k l = Walk (l.words.items ++ l.more) l.states (length (l.words.items ++ l.more) - l.k) l.set l.answer
