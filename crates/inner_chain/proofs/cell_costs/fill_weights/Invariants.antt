use Rattle.std.proofs.Common.{◌≡◌, ◌<◌, ◌≤◌, ℕ, length}
use Rattle.std.specs.Prelude.{slice_index}
use Rattle.inner_chain.proofs.cell_costs.fill_weights.Given as goal

abbrev pub invariant-loop-q : goal.invariant-loop-q
invariant-loop-q l = record {
  full : (p : ℕ) → p < l.q → slice_index l.weights p ≡ 15;
  rest : (p : ℕ) → 252 ≤ p → slice_index l.weights p ≡ slice_index l.initial.weights p;
  long : length l.weights ≡ length l.initial.weights;
}
