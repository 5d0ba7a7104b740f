-- The size of a quotient by a power of two, rounded to the nearest.
use Rattle.std.proofs.Common.{◌≡◌, ℕ, zero, suc, ◌+◌, ◌-◌, ◌*◌, ◌^◌, ◌<◌, ◌≤◌, ap, sym, ◌∙◌, subst, arith, to_z, of_z}
use Rattle.std.specs.Prelude.{ℤ, pos, negsuc, neg_ℤ, ◌+ℤ◌, ◌-ℤ◌, ◌≤ℤ◌, nat_abs}
use Rattle.std.specs.Int.{w64}
use Rattle.std.proofs.lemmas.Int.{ints}
use Rattle.std.proofs.lemmas.Nat.{div_below, mul-le}
use Rattle.std.proofs.Math.Nat.{pow-suc}
use Rattle.track_arithmetic.specs.Numbers.{floor}
use Rattle.track_arithmetic.proofs.Products.{held}

below : (t : ℤ) (m a : ℕ) → 0 < m → t ≤ℤ pos (2 * (m * a) + m) → neg_ℤ (pos (2 * (m * a))) ≤ℤ (t -ℤ pos m) → nat_abs (floor t (2 * m)) ≤ a
below (pos x) m a some high low = omega (arith, ints, div_below x (2 * m) (suc a) (omega (arith, some)) (omega (arith, ints, high, some)))
below (negsuc x) m a some high low = omega (arith, ints, div_below x (2 * m) a (omega (arith, some)) (omega (arith, ints, low, some)))

some_power : (s : ℕ) → 0 < 2 ^ s
some_power zero = omega arith
some_power (suc s) = rw (pow-suc 2 s) (omega (arith, some_power s))

pub near_below : (x : ℤ) (s a : ℕ) → 1 ≤ s → nat_abs x ≤ 2 ^ s * a → nat_abs (floor (x +ℤ pos (2 ^ (s - 1))) (2 ^ s)) ≤ a
near_below x zero a h k = absurd (omega (arith, h))
near_below x (suc s) a h k =
    let twice : 2 ^ suc s ≡ 2 * 2 ^ s = rw (pow-suc 2 s) (omega arith) in
    let m = 2 ^ s in
    let size : nat_abs x ≤ 2 * (m * a) = omega (arith, subst (λ (z : ℕ). nat_abs x ≤ z * a) twice k) in
    let r = below (x +ℤ pos m) m a (some_power s) (omega (arith, ints, size)) (omega (arith, ints, size)) in
    let before : suc s - 1 ≡ s = omega arith in
    subst (λ (z : ℕ). nat_abs (floor (x +ℤ pos (2 ^ z)) (2 ^ suc s)) ≤ a) (sym before) (subst (λ (z : ℕ). nat_abs (floor (x +ℤ pos m) z) ≤ a) (sym twice) r)

-- what a call gives for a part
pub part_below : (x r : ℤ) (s a : ℕ) → 1 ≤ s → nat_abs x ≤ 2 ^ 62 → r ≡ floor (to_z w64 (of_z w64 x) +ℤ pos (2 ^ (s - 1))) (2 ^ s) → nat_abs x ≤ 2 ^ s * a → nat_abs (to_z w64 (of_z w64 r)) ≤ a
part_below x r s a some most e h =
    let is : r ≡ floor (x +ℤ pos (2 ^ (s - 1))) (2 ^ s) = e ∙ ap (λ (z : ℤ). floor (z +ℤ pos (2 ^ (s - 1))) (2 ^ s)) (held x most) in
    let least : 2 ≤ 2 ^ s = two s some in
    let wide : nat_abs x ≤ 2 ^ s * 2 ^ 61 = omega (arith, most, mul-le 2 (2 ^ 61) (2 ^ s) (2 ^ 61) least (omega arith)) in
    let far : nat_abs r ≤ 2 ^ 61 = subst (λ (z : ℤ). nat_abs z ≤ 2 ^ 61) (sym is) (near_below x s (2 ^ 61) some wide) in
    let near : nat_abs r ≤ a = subst (λ (z : ℤ). nat_abs z ≤ a) (sym is) (near_below x s a some h) in
    subst (λ (z : ℤ). nat_abs z ≤ a) (sym (held r (omega (arith, far)))) near
  where
    two : (s : ℕ) → 1 ≤ s → 2 ≤ 2 ^ s
    two zero h = absurd (omega (arith, h))
    two (suc s) h = rw (pow-suc 2 s) (omega (arith, some_power s))
