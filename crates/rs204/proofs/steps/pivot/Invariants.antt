use Rattle.std.proofs.Common.{◌≡◌, ◌<◌, ℕ}
use Rattle.std.specs.Prelude.{slice_index}
use Rattle.rs204.specs.Polynomials.{along}
use Rattle.rs204.specs.Kernels.{vector}
use Rattle.rs204.proofs.steps.pivot.Given as goal

abbrev pub invariant-loop-k : goal.invariant-loop-k
invariant-loop-k l = (j : ℕ) → j < l.k → along (vector l.vectors j) (λ i. slice_index l.values i) l.from ≡ 0
