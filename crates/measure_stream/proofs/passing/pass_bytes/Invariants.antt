use Rattle.std.proofs.Common.{◌*◌}
use Rattle.measure_stream.specs.Passing.{Takes}
use Rattle.measure_stream.proofs.passing.pass_bytes.Given as goal

abbrev pub invariant-loop-k : goal.invariant-loop-k
invariant-loop-k l = Takes (8 * l._k) l.initial.branch l.initial.known l.initial.part l.initial.words l.branch l.known l.part l.words
