use Rattle.std.proofs.Common.{◌≡◌, ◌+◌, ◌<◌, ◌≤◌, ℕ, drop, length}
use Rattle.std.specs.Prelude.{slice_index_or}
use Rattle.code_paths.specs.declared.costs.CostPair.{CostPair}
use Rattle.inner_chain.specs.CostTables.{IsRead}
use Rattle.inner_chain.proofs.cost_pairs.write_gathered.Given as goal

abbrev pub invariant-loop-step : goal.invariant-loop-step
invariant-loop-step l = record {
  here : (t : ℕ) (d : CostPair) → t < l.step → IsRead l.costs l.entries t (slice_index_or l.to (l.fn.first + t) d);
  before : (k : ℕ) (d : CostPair) → k < l.fn.first → slice_index_or l.to k d ≡ slice_index_or l.initial.to k d;
  rest : (k : ℕ) → l.fn.first + l.step ≤ k → drop k l.to ≡ drop k l.initial.to;
  long : length l.to ≡ length l.initial.to;
}
