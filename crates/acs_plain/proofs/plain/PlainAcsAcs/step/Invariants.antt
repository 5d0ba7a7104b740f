use Rattle.acs_plain.proofs.Loops.{StepBelow}
use Rattle.acs_plain.proofs.plain.PlainAcsAcs.step.Given as goal

abbrev pub invariant-loop-n : goal.invariant-loop-n
invariant-loop-n l = StepBelow l.old l.pair l.low l.n l.alive l.answer l.cost
