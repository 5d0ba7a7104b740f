-- The field of the outer code (EN 300 744, 4.3.2): 256 elements modulo x^8 + x^4 + x^3 + x^2 + 1. An element is a
-- number below 256; its bit i is the coefficient of x^i.
use Rattle.std.specs.Prelude.{ℕ, zero, suc, ◌+◌, ◌*◌, ◌^◌, bit_xor}
use Rattle.std.specs.Int.{bit_at}

-- the carry-less product by the lowest k bits of b: the sum of a * x^i over the set bits i
unfoldable pub carryless : ℕ → ℕ → ℕ → ℕ
carryless zero a b = 0
carryless (suc k) a b = bit_xor (bit_at b k * (a * 2 ^ k)) (carryless k a b)

-- the remainder of 8 + k bits modulo the polynomial (285 as a number)
unfoldable pub reduced : ℕ → ℕ → ℕ
reduced zero a = a
reduced (suc k) a = reduced k (bit_xor a (bit_at a (8 + k) * (285 * 2 ^ k)))

-- the product of two elements; their sum is bit_xor
unfoldable pub mul : ℕ → ℕ → ℕ
mul a b = reduced 7 (carryless 8 a b)

-- the powers of λ, the element 2
unfoldable pub power : ℕ → ℕ
power zero = 1
power (suc i) = mul 2 (power i)
