use Rattle.std.proofs.Common.{◌≡◌, ◌+◌, ◌*◌, ◌<◌, ◌≤◌, ℕ, drop, length}
use Rattle.std.specs.Prelude.{slice_index_or}
use Rattle.code_paths.specs.declared.costs.CostPair.{CostPair}
use Rattle.inner_chain.proofs.Running.{AreWords}
use Rattle.inner_chain.proofs.runs.write_fours.Given as goal

abbrev pub invariant-loop-four : goal.invariant-loop-four
invariant-loop-four l = record {
  here : AreWords l.costs l.entries l.steps l.start l.first (4 * l.four) l.to;
  before : (k : ℕ) (d : CostPair) → k < l.first → slice_index_or l.to k d ≡ slice_index_or l.initial.to k d;
  rest : (k : ℕ) → l.first + 21 * l.steps ≤ k → drop k l.to ≡ drop k l.initial.to;
  long : length l.to ≡ length l.initial.to;
}
