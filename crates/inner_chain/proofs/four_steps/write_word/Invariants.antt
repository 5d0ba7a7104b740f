use Rattle.std.proofs.Common.{ℕ}
use Rattle.inner_chain.specs.StepPairs.{WritesWords}
use Rattle.inner_chain.proofs.four_steps.write_word.Given as goal

abbrev pub invariant-loop-step : goal.invariant-loop-step
invariant-loop-step l = (n : ℕ) → WritesWords l.word 1 l.step l.costs l.entries n l.first l.initial.to l.to
