use Rattle.std.proofs.Common.{◌≡◌, ◌+◌, ◌*◌, ◌<◌, ◌≤◌, ℕ, drop, length}
use Rattle.std.specs.Prelude.{slice_index_or}
use Rattle.code_paths.specs.declared.costs.CostPair.{CostPair}
use Rattle.inner_chain.specs.CostTables.{IsRead}
use Rattle.inner_chain.proofs.runs.write_runs.Given as goal

abbrev pub invariant-loop-run : goal.invariant-loop-run
invariant-loop-run l = record {
  here : (t : ℕ) (d : CostPair) → t < 21 * l.run * l.steps → IsRead l.costs l.entries t (slice_index_or l.to (l.first + t) d);
  before : (k : ℕ) (d : CostPair) → k < l.first → slice_index_or l.to k d ≡ slice_index_or l.initial.to k d;
  rest : (k : ℕ) → l.first + 252 * l.steps ≤ k → drop k l.to ≡ drop k l.initial.to;
  long : length l.to ≡ length l.initial.to;
}
