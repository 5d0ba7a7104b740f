-- Laws of weights, and weighted costs computed.
use Rattle.std.proofs.Common.{◌≡◌, ℕ, ◌+◌, ◌*◌, ◌/◌, ◌≤◌, [], ◌∷◌, map, refl, arith}
use Rattle.std.proofs.Math.Nat.{mul-le-mul_right, mul-div_left}
use Rattle.soft_metric.specs.Weights.{full_weight, weight_of_byte, weighted, WeightsTellApart, WholeWeightChangesNothing, NoWeightLeavesNothing}

pub tell_apart : WeightsTellApart
tell_apart c d w far some =
    let more : (c + 15) * w ≤ d * w = mul-le-mul_right w far in
    omega (arith, more, some)

pub whole : WholeWeightChangesNothing
whole pair = λ i. (mul-div_left pair.0 {n = full_weight} (omega arith) i, mul-div_left pair.1 {n = full_weight} (omega arith) i)

pub nothing : NoWeightLeavesNothing
nothing pair = λ i. (no_cost pair.0 i, no_cost pair.1 i)
  where
    no_cost : (c : ℕ) → c * 0 / full_weight ≡ 0
    no_cost c = omega arith

-- none, the least, about half and the whole of some costs
weighed : map (weighted (511, 2047)) (0 ∷ 1 ∷ 7 ∷ 15 ∷ []) ≡ (0, 0) ∷ (34, 136) ∷ (238, 955) ∷ (511, 2047) ∷ []
weighed = refl

bytes : map weight_of_byte (0 ∷ 1 ∷ 15 ∷ 16 ∷ 255 ∷ []) ≡ 0 ∷ 1 ∷ 15 ∷ 15 ∷ 15 ∷ []
bytes = refl
