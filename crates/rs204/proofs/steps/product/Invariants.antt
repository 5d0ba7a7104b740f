use Rattle.std.proofs.Common.{◌≡◌, ◌+◌, drop}
use Rattle.std.specs.Prelude.{bit_xor, slice_index}
use Rattle.rs204.specs.Polynomials.{along}
use Rattle.rs204.proofs.steps.product.Given as goal

abbrev pub invariant-loop-j : goal.invariant-loop-j
invariant-loop-j l = bit_xor l.sum (along (drop l.j l.vector) (λ k. slice_index l.values k) (l.from + l.j)) ≡ along l.vector (λ k. slice_index l.values k) l.from
