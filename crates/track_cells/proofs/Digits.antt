-- A quotient digit by digit.
use Rattle.std.proofs.Common.{◌≡◌, ℕ, ◌+◌, ◌*◌, ◌/◌, ◌<◌, ◌≤◌, arith, min}
use Rattle.std.proofs.lemmas.Nat.{le-div}
use Rattle.std.proofs.Math.Nat.{div-eq_of_lt-le, div-lt_iff_lt-mul}

pub digits : (u p a b c d r s t v : ℕ) → 0 < u → a * u + r ≡ p → b * u + s ≡ r → c * u + t ≡ s → d * u + v ≡ t → v < u → p < 15 * u → a + b + c + d ≡ min 15 (p / u)
digits u p a b c d r s t v some ea eb ec ed small few =
    let q = a + b + c + d in
    let low : q * u ≤ p = omega (arith, ea, eb, ec, ed) in
    let high : p < (q + 1) * u = omega (arith, ea, eb, ec, ed, small) in
    let is : p / u ≡ q = div-eq_of_lt-le u low high in
    let less : p / u < 15 = (div-lt_iff_lt-mul some).1 few in
    omega (arith, is, less)

pub full : (u p : ℕ) → 0 < u → 15 * u ≤ p → 15 ≡ min 15 (p / u)
full u p some most = omega (arith, le-div 15 p u some most)
