use Rattle.measure_stream.specs.Passing.{Takes}
use Rattle.measure_stream.proofs.passing.pass_single_bits.Given as goal

abbrev pub invariant-loop-k : goal.invariant-loop-k
invariant-loop-k l = Takes l._k l.initial.branch l.initial.known l.initial.part l.initial.words l.branch l.known l.part l.words
