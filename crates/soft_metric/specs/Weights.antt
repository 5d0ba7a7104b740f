-- Weights of cells, from 0 to 15, and their effect on costs (this project's own).
use Rattle.std.specs.Prelude.{◌≡◌, ℕ, ◌+◌, ◌*◌, ◌/◌, ◌<◌, ◌≤◌, min}
use Rattle.std.proofs.Common.{arith}
use Rattle.std.proofs.Math.Nat.{div-le_of_le-mul}
use Rattle.std.proofs.lemmas.Nat.{mul-le}
use Rattle.soft_metric.specs.Squares.{IsSmallPair}

-- the full weight
abbrev pub full_weight : ℕ
full_weight = 15

-- a byte above 15 counts as 15
abbrev pub weight_of_byte : ℕ → ℕ
weight_of_byte byte = min full_weight byte

-- both costs of a bit, times the weight of its cell, over 15, rounded down
abbrev pub weighted : ℕ × ℕ → ℕ → ℕ × ℕ
weighted pair weight = (pair.0 * weight / full_weight, pair.1 * weight / full_weight)

-- costs that differ by 15 still differ at the least weight above 0
abbrev pub WeightsTellApart : Type 0
WeightsTellApart = (c d w : ℕ) → c + 15 ≤ d → 1 ≤ w → (weighted (c, d) w).0 < (weighted (c, d) w).1

-- full weight changes no cost
abbrev pub WholeWeightChangesNothing : Type 0
WholeWeightChangesNothing = (pair : ℕ × ℕ) → weighted pair full_weight ≡ pair

-- weight 0 makes all costs 0
abbrev pub NoWeightLeavesNothing : Type 0
NoWeightLeavesNothing = (pair : ℕ × ℕ) → weighted pair 0 ≡ (0, 0)

-- a weight of at most 15 keeps costs at most 4095
one_is_small : (c w : ℕ) → c ≤ 4095 → w ≤ full_weight → c * w / full_weight ≤ 4095
one_is_small c w small within = div-le_of_le-mul full_weight (omega (arith, mul-le c w 4095 full_weight small within))

-- weighted costs are at most 4095
pub weighted_is_small : (pair : ℕ × ℕ) (weight : ℕ) → IsSmallPair pair → weight ≤ full_weight
    → IsSmallPair (weighted pair weight)
weighted_is_small pair weight small within = (
  one_is_small pair.0 weight small.0 within,
  one_is_small pair.1 weight
      small.1 within,
)
