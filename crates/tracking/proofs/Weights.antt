-- Weights rise with the power of the gain.
use Rattle.std.proofs.Common.{◌≡◌, ℕ, zero, suc, ◌+◌, ◌*◌, ◌/◌, ◌<◌, ◌≤◌, min, arith, refl}
use Rattle.std.proofs.lemmas.Nat.{le-div, mul-le}
use Rattle.std.proofs.Math.Nat.{div-mul-le_self}
use Rattle.tracking.specs.Correction.{weight_of, shared_weight}
use Rattle.tracking.specs.Laws.{GreaterPowersWeighMore}

rising : (k m n : ℕ) → 0 < k → m ≤ n → m / k ≤ n / k
rising k m n some h = le-div (m / k) n k some (omega (arith, div-mul-le_self m k, h))

weights : (full m n : ℕ) → m ≤ n → weight_of full m ≤ weight_of full n
weights zero m n h = omega arith
weights (suc k) m n h = let r = rising (suc k) (15 * m + suc k / 2) (15 * n + suc k / 2) (omega arith) (omega (arith, h)) in omega (arith, r)

shared : (v w old : ℕ) → v ≤ w → shared_weight v old ≤ shared_weight w old
shared v w old h = let p = mul-le v (min 15 old) w (min 15 old) h (omega arith) in rising 30 (2 * (v * min 15 old) + 15) (2 * (w * min 15 old) + 15) (omega arith) (omega (arith, p))

pub more : GreaterPowersWeighMore
more full m n old h = shared (weight_of full m) (weight_of full n) old (weights full m n h)
