use Rattle.std.proofs.Common.{◌≡◌, ◌+◌, ◌*◌}
use Rattle.inner_chain.specs.StepPairs.{WritesWords}
use Rattle.inner_chain.proofs.four_steps.write_four_steps.Given as goal

abbrev pub invariant-loop-four : goal.invariant-loop-four
invariant-loop-four l = record {
  place : l.at ≡ l.first + 4 * l.four * l.steps;
  writes : WritesWords 0 (4 * l.four) 4 l.costs l.entries l.steps l.first l.initial.to l.to;
}
