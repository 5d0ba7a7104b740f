-- Each of them is 1.
use Rattle.std.proofs.Common.{ℕ, ◌<◌, ◌≤◌, ◌^◌, arith, get_or, replicate}
use Rattle.std.proofs.lemmas.List.{get_or-replicate}
use Rattle.mode_set.specs.StreamTable.{label_bits}
use Rattle.mode_set.specs.declared.modes.Shape.{Shape}
use Rattle.mode_set.specs.declared.modes.Shape.TheVariants.{Qpsk, Qam16, Qam64}
use Rattle.test_carriers.proofs.tests.symbols.labels.Goals as goal

four_at_least : (shape : Shape) → 4 ≤ 2 ^ label_bits shape
four_at_least Qpsk = omega arith
four_at_least Qam16 = omega arith
four_at_least Qam64 = omega arith

small : (n : ℕ) (shape : Shape) (q : ℕ) → q < n → get_or (replicate n 1) q 0 < 2 ^ label_bits shape
small n shape q l = omega (arith, get_or-replicate {A = ℕ} n q 1 0 l, four_at_least shape)

pub returns : goal.returns
returns c = small 1512
