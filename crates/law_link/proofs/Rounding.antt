-- The integer nearest to a quotient.
use Rattle.std.proofs.Common.{◌≡◌, ℕ, ◌+◌, ◌*◌, ◌^◌, ◌<◌, ◌≤◌, arith, inl, inr}
use Rattle.std.specs.Prelude.{ℤ, pos, negsuc, ◌+ℤ◌, ◌-ℤ◌, ◌*ℤ◌, nat_abs}
use Rattle.std.specs.Int.{saturate_signed, w16}
use Rattle.std.proofs.lemmas.Int.{ints}
use Rattle.std.proofs.lemmas.Bool.{cases_lt}
use Rattle.std.proofs.Math.Nat.{mul-le-mul_right}
use borrow.Author.Differences.{up, down, sum_is_lem, product_is}
use Rattle.cell_equal.specs.Equal.{nearest}
use Rattle.spec_words.proofs.Floors.{floor_is}

-- rounding moves a quotient no farther from an integer than it was
pub rounded : (x z : ℤ) (n e : ℕ) → 0 < n → nat_abs (z -ℤ x *ℤ pos n) ≤ e * n → nat_abs (nearest z n -ℤ x) ≤ e
rounded x z n e some h =
    let t = pos 2 *ℤ z +ℤ pos n in
    let q = nearest z n in
    let f = floor_is t (2 * n) (omega (arith, some)) in
    let t_is : up t + 2 * down z ≡ down t + 2 * up z + n = omega (arith, sum_is_lem (pos 2 *ℤ z) (pos n), product_is (pos 2) z) in
    let near : (up z + down x * n ≤ down z + up x * n + e * n) × (down z + up x * n ≤ up z + down x * n + e * n) = omega (arith, ints, h, product_is x (pos n)) in
    elim (cases_lt (up x + down q + e) (up q + down x)) [
      | inl gt ↦ let far = mul-le-mul_right (2 * n) gt in absurd (omega (arith, far, f.low, t_is, near, some))
      | inr le ↦ elim (cases_lt (up q + down x + e) (up x + down q)) [
        | inl gt ↦ let far = mul-le-mul_right (2 * n) gt in absurd (omega (arith, far, f.high, t_is, near, some))
        | inr le2 ↦ omega (arith, ints, le, le2)
      ]
    ]

-- limiting a number to a range that contains x brings it no farther from x
pub clamped : (x z : ℤ) (e : ℕ) → (up x < down x + 2 ^ 15) × (down x ≤ up x + 2 ^ 15) → nat_abs (z -ℤ x) ≤ e → nat_abs (saturate_signed w16 z -ℤ x) ≤ e
clamped x (pos n) e f h = omega (arith, ints, f, h)
clamped x (negsuc n) e f h = omega (arith, ints, f, h)
