use Rattle.std.proofs.Common.{◌≡◌, ◌<◌, ◌≤◌, ℕ, map, length}
use Rattle.std.specs.Prelude.{slice_index}
use Rattle.gf256.specs.Field as field
use Rattle.rs204.specs.Codes.{plus}
use Rattle.rs204.specs.Polynomials.{along}
use Rattle.rs204.specs.Kernels.{vector}
use Rattle.rs204.proofs.steps.reduce.Given as goal

abbrev pub invariant-loop-k : goal.invariant-loop-k
invariant-loop-k l =
    (length l.vectors ≡ 9)
    × ((j : ℕ) → j < l.k → vector l.vectors j ≡ plus (vector l.initial.vectors j) (map (field.mul (field.mul (along (vector l.initial.vectors j) (λ i. slice_index l.values i) l.from) l.inverse)) l.other))
    × ((j : ℕ) → l.k ≤ j → vector l.vectors j ≡ vector l.initial.vectors j)
