use Rattle.std.proofs.Common.{◌≡◌, ◌+◌}
use Rattle.std.specs.Prelude.{vec_len, vec_capacity}
use Rattle.mode_set.specs.StreamTable.{rate}
use Rattle.puncture.specs.Steps.{IsAtStep, sent_before}
use Rattle.inner_chain.specs.CostTables.{AppendsFirst}
use Rattle.inner_chain.proofs.plain.push_pairs.Given as goal

abbrev pub invariant-loop-step : goal.invariant-loop-step
invariant-loop-step l = record {
  number : l.bit ≡ sent_before (rate l.settings l.stream) l.step;
  at : IsAtStep l.steps (rate l.settings l.stream) l.step;
  pairs : AppendsFirst l.settings l.cells l.weights l.fn.l l.stream l.step l.initial.to.items l.to.items;
  len : vec_len l.to ≡ vec_len l.initial.to + l.step;
  capacity : vec_capacity l.to ≡ vec_capacity l.initial.to;
}
