use Rattle.std.proofs.Common.{◌≡◌, ◌≢◌, ◌+◌, ◌*◌, ◌<◌, ℕ, drop, length}
use Rattle.std.specs.Prelude.{slice_index_or}
use Rattle.code_paths.specs.declared.costs.CostPair.{CostPair}
use Rattle.inner_chain.specs.CostTables.{IsPairAt}
use Rattle.inner_chain.proofs.runs.write_run.Given as goal

abbrev pub invariant-loop-word : goal.invariant-loop-word
invariant-loop-word l = record {
  place : l.at ≡ l.first + l.word * l.steps;
  here : (u : ℕ) (d : CostPair) → u < l.word → IsPairAt l.costs (l.x + u) (l.y + u) (slice_index_or l.to (l.first + u * l.steps) d);
  others : (k : ℕ) (d : CostPair) → ((u : ℕ) → u < l.word → k ≢ l.first + u * l.steps) → slice_index_or l.to k d ≡ slice_index_or l.initial.to k d;
  rest : (k : ℕ) → l.first + 20 * l.steps < k → drop k l.to ≡ drop k l.initial.to;
  long : length l.to ≡ length l.initial.to;
}
