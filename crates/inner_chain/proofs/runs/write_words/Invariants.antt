use Rattle.std.proofs.Common.{◌≡◌, ◌+◌, ◌*◌, ◌<◌, ◌≤◌, ℕ, drop, length}
use Rattle.std.specs.Prelude.{slice_index_or}
use Rattle.code_paths.specs.declared.costs.CostPair.{CostPair}
use Rattle.inner_chain.proofs.Running.{AreWords}
use Rattle.inner_chain.proofs.runs.write_words.Given as goal

abbrev pub invariant-loop-half : goal.invariant-loop-half
invariant-loop-half l = record {
  here : AreWords l.costs l.entries l.steps l.start l.first (2 * l.half) l.to;
  before : (k : ℕ) (d : CostPair) → k < l.first → slice_index_or l.to k d ≡ slice_index_or l.initial.to k d;
  rest : (k : ℕ) → l.first + 21 * l.steps ≤ k → drop k l.to ≡ drop k l.initial.to;
  long : length l.to ≡ length l.initial.to;
}
