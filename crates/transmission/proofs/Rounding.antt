-- Quotients rounded up.
use Rattle.std.proofs.Common.{◌≡◌, ℕ, suc, ◌+◌, ◌-◌, ◌*◌, ◌/◌, ◌<◌, ◌≤◌, arith}
use Rattle.std.proofs.Math.Nat.{lt-div-mul-add, suc-mul}
use Rattle.std.proofs.lemmas.Nat.{div_below}
use Rattle.spec_words.specs.Words.{rounded_up}

pub enough : (a b : ℕ) → 0 < b → a ≤ rounded_up a b * b
enough a b some = let above : a + b - 1 < (a + b - 1) / b * b + b = lt-div-mul-add some in omega (arith, above)

pub least : (a b n : ℕ) → 0 < b → a ≤ n * b → rounded_up a b ≤ n
least a b n some all =
    let product : suc n * b ≡ n * b + b = suc-mul n b in
    let below : (a + b - 1) / b < suc n = div_below (a + b - 1) b (suc n) some (omega (arith, product)) in
    omega (arith, below)
