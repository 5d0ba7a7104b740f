use Rattle.measure_words.proofs.Counting.{CountsTo}
use Rattle.measure_words.proofs.words.count_words.Given as goal

abbrev pub invariant-loop-k : goal.invariant-loop-k
invariant-loop-k l = CountsTo l.k l.slots l.received l.limit l.initial.outer l.outer l.initial.all l.initial.current l.initial.later l.all l.current l.later
