use Rattle.std.proofs.Common.{◌≡◌, ◌+◌, ◌*◌}
use Rattle.inner_chain.specs.StepPairs.{WritesSteps}
use Rattle.inner_chain.proofs.step_pairs.write_two_steps.Given as goal

abbrev pub invariant-loop-four : goal.invariant-loop-four
invariant-loop-four l = record {
  place : l.at ≡ l.first + 4 * l.four * l.steps;
  writes : WritesSteps (4 * l.four) l.costs l.here l.next l.steps l.first l.initial.to l.to;
}
