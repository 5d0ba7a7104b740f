-- The root, and the size of a direction's parts.
use Rattle.std.proofs.Common.{◌≡◌, ℕ, zero, suc, ◌+◌, ◌*◌, ◌^◌, ◌<◌, ◌≤◌, arith, inl, inr}
use Rattle.std.specs.Prelude.{ℤ, pos, negsuc, ◌+ℤ◌, ◌*ℤ◌, ◌≤ℤ◌, neg_ℤ, nat_abs}
use Rattle.std.proofs.lemmas.Int.{ints}
use Rattle.std.proofs.lemmas.Nat.{mul-le, div_below}
use Rattle.std.proofs.lemmas.Bool.{cases_lt}
use Rattle.track_arithmetic.specs.Numbers.{floor, root, root_up_to, direction_part}
use Rattle.track_arithmetic.specs.Laws.{IsRoot}

-- r is the root of n, by the next square
record IsFloorRoot (n r : ℕ) : Type 0 where
  pub low : r * r ≤ n
  pub high : n < (r + 1) * (r + 1)

more : (n r : ℕ) → IsFloorRoot n r → IsFloorRoot (suc n) (root_up_to r (suc n))
more n r h = record { low = grind (arith, h.low, h.high); high = grind (arith, h.low, h.high) }

floor_root : (n : ℕ) → IsFloorRoot n (root n)
unfolding root
floor_root zero = record { low = omega arith; high = omega arith }
floor_root (suc n) = more n (root n) (floor_root n)

-- a number whose square is at most n is at most one whose next square is above n
not_above : (n r t : ℕ) → n < (r + 1) * (r + 1) → t * t ≤ n → t ≤ r
not_above n r t high low = elim (cases_lt r t) [
  | inl lt ↦ absurd (omega (arith, high, low, mul-le (r + 1) (r + 1) t t (omega (arith, lt)) (omega (arith, lt))))
  | inr ge ↦ ge
]

pub root_is_greatest : (n : ℕ) → IsRoot n (root n)
root_is_greatest n = record { within = (floor_root n).low; greatest = λ t h. not_above n (root n) t (floor_root n).high h }

-- there is one such number
pub root_is : (n r : ℕ) → r * r ≤ n → n < (r + 1) * (r + 1) → r ≡ root n
root_is n r low high = omega (arith, not_above n r (root n) high (floor_root n).low, not_above n (root n) r (floor_root n).high low)

floor_within : (t : ℤ) (s : ℕ) → 0 < s → t ≤ℤ pos (32769 * s) → neg_ℤ (pos (32767 * s)) ≤ℤ t → nat_abs (floor t (2 * s)) ≤ 2 ^ 14
floor_within (pos x) s some high low = omega (arith, ints, div_below x (2 * s) 16385 (omega (arith, some)) (omega (arith, ints, high)))
floor_within (negsuc x) s some high low = omega (arith, ints, div_below x (2 * s) 16384 (omega (arith, some)) (omega (arith, ints, low)))

pub part_within : (a : ℤ) (s : ℕ) → 0 < s → nat_abs a ≤ s → nat_abs (direction_part a s) ≤ 2 ^ 14
part_within a s some h = floor_within (pos (2 ^ 15) *ℤ a +ℤ pos s) s some (omega (arith, ints, h)) (omega (arith, ints, h))

pub part_at_most : (a p q r : ℕ) → r ≡ root p → p ≡ q → a * a ≤ q → a ≤ r
part_at_most a p q r e f h = let g : a ≤ root p = (root_is_greatest p).greatest a (omega (arith, f, h)) in omega (arith, e, g)
