-- One cell, its estimate and the result.
use Rattle.std.proofs.Common.{◌≡◌, ℕ, ◌+◌, ◌*◌, ◌^◌, ◌≤◌, ap, refl, sym, ◌∙◌, arith, subst, inl, inr}
use Rattle.std.specs.Prelude.{ℤ, pos, negsuc, ◌+ℤ◌, ◌-ℤ◌, ◌*ℤ◌, nat_abs}
use Rattle.std.proofs.lemmas.Int.{ints, unsigned_abs-mul}
use Rattle.std.proofs.lemmas.Bool.{cases_lt}
use Rattle.std.proofs.Math.Nat.{mul-le-mul_left, mul-le-mul_right}
use Rattle.law_link.proofs.Errors.{errors}
use Rattle.spec_words.proofs.Sizes.{Below, self_below, plus_below, less_below, times_below, square_le, sum_square}

-- (u, v) estimates 21845 d times the gain (a, b) / 16384
pub record IsEstimate (a b : ℤ) (d : ℕ) (u v : ℤ) : Type 0 where
  pub re : Below (pos 16384 *ℤ u -ℤ pos (21845 * d) *ℤ a) (16384 * d)
  pub im : Below (pos 16384 *ℤ v -ℤ pos (21845 * d) *ℤ b) (16384 * d)

-- (r, i) was received for (x, y)
pub record IsReceived (a b x y r i : ℤ) : Type 0 where
  pub re : Below (pos 16384 *ℤ r -ℤ (a *ℤ x -ℤ b *ℤ y)) 16384
  pub im : Below (pos 16384 *ℤ i -ℤ (a *ℤ y +ℤ b *ℤ x)) 16384

triangle : (y z : ℤ) (e : ℕ) → Below (y -ℤ z) e → nat_abs z ≤ nat_abs y + e
triangle y z e h = omega (arith, ints, h.below)

far : (g c e : ℕ) (u a : ℤ) → Below (pos g *ℤ u -ℤ pos c *ℤ a) e → c * nat_abs a ≤ g * nat_abs u + e
far g c e u a h = omega (arith, triangle (pos g *ℤ u) (pos c *ℤ a) e h, unsigned_abs-mul (pos g) u, unsigned_abs-mul (pos c) a)

long : (m n : ℕ) → 2 ^ 26 ≤ m * m + n * n → 8192 ≤ m + n
long m n h = elim (cases_lt (m + n) 8192) [
  | inl lt ↦ let few : (m + n) * (m + n) ≤ 8191 * 8191 = square_le (m + n) 8191 (omega (arith, lt)) in absurd (omega (arith, few, h))
  | inr ge ↦ ge
]

-- the estimate is not small
pub strong : (a b u v : ℤ) (d : ℕ) → 2 ^ 26 ≤ nat_abs a * nat_abs a + nat_abs b * nat_abs b → IsEstimate a b d u v → 21841 * d ≤ 2 * (nat_abs u + nat_abs v)
strong a b u v d h near =
    let one = far 16384 (21845 * d) (16384 * d) u a near.re in
    let two = far 16384 (21845 * d) (16384 * d) v b near.im in
    let all = mul-le-mul_left (21845 * d) (long (nat_abs a) (nat_abs b) h) in
    omega (arith, one, two, all)

-- the sum of the products of errors
pub spread : (d : ℕ) (a b x y u v r i : ℤ) → Below x 32768 → Below y 32768 → IsEstimate a b d u v → IsReceived a b x y r i
    → nat_abs (pos (21845 * d) *ℤ (r *ℤ u +ℤ i *ℤ v) -ℤ x *ℤ (u *ℤ u +ℤ v *ℤ v)) ≤ 87381 * d * (nat_abs u + nat_abs v)
spread d a b x y u v r i bx by near got =
    let c = 21845 * d in
    let E = pos c *ℤ (r *ℤ u +ℤ i *ℤ v) -ℤ x *ℤ (u *ℤ u +ℤ v *ℤ v) in
    let bc = self_below (pos c) in
    let bu = self_below u in
    let bv = self_below v in
    let b1 = times_below by (less_below (times_below near.im bu) (times_below near.re bv)) in
    let b2 = times_below bc (plus_below (times_below got.re bu) (times_below got.im bv)) in
    let b3 = times_below bx (plus_below (times_below near.re bu) (times_below near.im bv)) in
    let all = less_below (plus_below b1 b2) b3 in
    let is : 16384 * nat_abs E ≡ nat_abs (pos 16384 *ℤ E) = sym (unsigned_abs-mul (pos 16384) E) in
    let more = is ∙ ap nat_abs (errors 16384 c a b x y u v r i) in
    omega (arith, more, all.below)

-- 17 times the power is greater
roomy : (d m n : ℕ) → 21841 * d ≤ 2 * (m + n) → 87381 * d * (m + n) ≤ 17 * (m * m + n * n)
roomy d m n h = let more = mul-le-mul_right (m + n) h in omega (arith, more, sum_square m n)

square_is : (u : ℤ) → u *ℤ u ≡ pos (nat_abs u * nat_abs u)
square_is (pos n) = refl
square_is (negsuc n) = refl

power_is : (u v : ℤ) → u *ℤ u +ℤ v *ℤ v ≡ pos (nat_abs u * nat_abs u + nat_abs v * nat_abs v)
power_is u v = ap (λ (z : ℤ). z +ℤ v *ℤ v) (square_is u) ∙ ap (λ (z : ℤ). pos (nat_abs u * nat_abs u) +ℤ z) (square_is v)

-- the corrected cell is close to the one sent
pub told : (d : ℕ) (a b x y u v r i : ℤ) → Below x 32768 → Below y 32768 → 2 ^ 26 ≤ nat_abs a * nat_abs a + nat_abs b * nat_abs b → IsEstimate a b d u v → IsReceived a b x y r i
    → nat_abs (pos (21845 * d) *ℤ (r *ℤ u +ℤ i *ℤ v) -ℤ x *ℤ pos (nat_abs u * nat_abs u + nat_abs v * nat_abs v)) ≤ 17 * (nat_abs u * nat_abs u + nat_abs v * nat_abs v)
told d a b x y u v r i bx by h near got =
    let most = roomy d (nat_abs u) (nat_abs v) (strong a b u v d h near) in
    let sum = spread d a b x y u v r i bx by near got in
    subst (λ (z : ℤ). nat_abs (pos (21845 * d) *ℤ (r *ℤ u +ℤ i *ℤ v) -ℤ x *ℤ z) ≤ 17 * (nat_abs u * nat_abs u + nat_abs v * nat_abs v)) (power_is u v) (omega (arith, most, sum))

-- a sixteenth of the weight's unit
pub worth : (d m n : ℕ) → 21841 * d ≤ 2 * (m + n) → 21845 * d * (21845 * d) ≤ 16 * (m * m + n * n)
worth d m n h = let more = square_le (21841 * d) (2 * (m + n)) h in omega (arith, more, sum_square m n)
