use Rattle.std.proofs.Common.{◌≡◌}
use Rattle.std.specs.Prelude.{vec_capacity}
use Rattle.mode_set.specs.StreamTable.{rate}
use Rattle.puncture.specs.Steps.{sent_before}
use Rattle.inner_chain.specs.CostTables.{AreCostEntries}
use Rattle.inner_chain.proofs.cost_entries.write_cost_entries.Given as goal

abbrev pub invariant-loop-step : goal.invariant-loop-step
invariant-loop-step l = record {
  number : l.bit ≡ sent_before (rate l.settings l.stream) l.step;
  entries : AreCostEntries l.settings l.stream l.step l.table.items;
  capacity : vec_capacity l.table ≡ vec_capacity l.initial.table;
}
