use Rattle.measure_known_bits.proofs.Taking.{SkipsTo}
use Rattle.measure_known_bits.proofs.moving.skip_bits.Given as goal

abbrev pub invariant-loop-k : goal.invariant-loop-k
invariant-loop-k g l = SkipsTo l.initial.from l.from l.stream l.initial.coder l.coder l._k
