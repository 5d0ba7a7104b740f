use Rattle.std.proofs.Common.{◌≡◌, ◌<◌, ℕ}
use Rattle.std.specs.Prelude.{IsTrue, slice_index}
use Rattle.inner_chain.proofs.cell_costs.are_full.Given as goal

abbrev pub invariant-loop-k : goal.invariant-loop-k
invariant-loop-k l = IsTrue l.full → (i : ℕ) → i < l.k → slice_index l.weights i ≡ 15
