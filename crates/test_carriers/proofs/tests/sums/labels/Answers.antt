-- Each of them is the label.
use Rattle.std.proofs.Common.{ℕ, ◌<◌, ◌^◌, arith, get_or, replicate}
use Rattle.std.proofs.lemmas.List.{get_or-replicate}
use Rattle.mode_set.specs.StreamTable.{label_bits}
use Rattle.mode_set.specs.declared.modes.Shape.{Shape}
use Rattle.test_carriers.proofs.tests.sums.labels.Goals as goal

small : (n : ℕ) (shape : Shape) (label q : ℕ) → label < 2 ^ label_bits shape → q < n → get_or (replicate n label) q 0 < 2 ^ label_bits shape
small n shape label q few l = omega (arith, get_or-replicate {A = ℕ} n q label 0 l, few)

pub returns : goal.returns
returns c = λ q l. small 1512 c.args.shape c.args.label q c.requires l
