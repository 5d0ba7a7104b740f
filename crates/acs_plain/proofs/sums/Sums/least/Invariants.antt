use Rattle.acs_plain.proofs.Loops.{LeastBelow}
use Rattle.acs_plain.proofs.sums.Sums.least.Given as goal

abbrev pub invariant-loop-n : goal.invariant-loop-n
invariant-loop-n l = LeastBelow l.self l.n l.low
