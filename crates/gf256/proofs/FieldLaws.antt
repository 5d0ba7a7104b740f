-- The laws of the field, for the product modulo the polynomial.
use Rattle.std.proofs.Common.{◌≡◌, ◌≢◌, ℕ, ◌+◌, ◌-◌, ◌<◌, ◌⊎◌, inl, inr, sym, ap, ap₂, ◌∙◌, subst, arith, lit<}
use Rattle.std.specs.Prelude.{bit_xor}
use lib.Bits.{xor_assoc, xor_self, xor_zero_r, xor_lt}
use Rattle.gf256.specs.Field.{mul, power}
use Rattle.gf256.proofs.Steps as by
use Rattle.gf256.proofs.Steps.{steps, turned}
use Rattle.gf256.proofs.Product as product
use Rattle.gf256.proofs.Product.{mul_is_steps, power_is_turned}

pub one_small : 1 < 256
one_small = lit< tt

pub xor_small : (a b : ℕ) → a < 256 → b < 256 → bit_xor a b < 256
xor_small a b l m = xor_lt 8 a b l m

pub xor_four : (a b c d : ℕ) → bit_xor (bit_xor a b) (bit_xor c d) ≡ bit_xor (bit_xor a c) (bit_xor b d)
xor_four a b c d = by.xor_four a b c d

pub xor_equal : (a b : ℕ) → bit_xor a b ≡ 0 → a ≡ b
xor_equal a b h = sym (xor_zero_r a) ∙ ap (bit_xor a) (sym (xor_self b)) ∙ sym (xor_assoc a b b) ∙ ap (λ z. bit_xor z b) h

pub mul_xor_left : (a b c : ℕ) → mul (bit_xor a b) c ≡ bit_xor (mul a c) (mul b c)
mul_xor_left a b c = product.mul_xor_left a b c

pub mul_zero_left : (b : ℕ) → mul 0 b ≡ 0
mul_zero_left b = product.mul_zero_left b

pub mul_zero_right : (a : ℕ) → mul a 0 ≡ 0
mul_zero_right a = product.mul_zero_right a

pub mul_small : (a b : ℕ) → a < 256 → b < 256 → mul a b < 256
mul_small a b l m = subst (λ z. z < 256) (sym (mul_is_steps a b l)) (by.steps_small a b l m)

pub mul_comm : (a b : ℕ) → a < 256 → b < 256 → mul a b ≡ mul b a
mul_comm a b l m = mul_is_steps a b l ∙ by.steps_comm a b l m ∙ sym (mul_is_steps b a m)

pub mul_assoc : (a b c : ℕ) → a < 256 → b < 256 → c < 256 → mul (mul a b) c ≡ mul a (mul b c)
mul_assoc a b c l m n =
    mul_is_steps (mul a b) c (mul_small a b l m) ∙ ap (λ z. steps z c) (mul_is_steps a b l) ∙ by.steps_assoc a b c l m n
    ∙ ap (steps a) (sym (mul_is_steps b c m)) ∙ sym (mul_is_steps a (mul b c) l)

pub mul_xor_right : (a b c : ℕ) → a < 256 → b < 256 → c < 256 → mul a (bit_xor b c) ≡ bit_xor (mul a b) (mul a c)
mul_xor_right a b c l m n =
    mul_comm a (bit_xor b c) l (xor_small b c m n) ∙ mul_xor_left b c a ∙ ap₂ bit_xor (mul_comm b a m l) (mul_comm c a n l)

pub one_left : (b : ℕ) → b < 256 → mul 1 b ≡ b
one_left b l = mul_is_steps 1 b one_small ∙ by.one_left b l

pub one_right : (a : ℕ) → a < 256 → mul a 1 ≡ a
one_right a l = mul_comm a 1 l one_small ∙ one_left a l

pub mul_no_zero : (a b : ℕ) → a < 256 → b < 256 → mul a b ≡ 0 → (a ≡ 0) ⊎ (b ≡ 0)
mul_no_zero a b l m h = by.steps_no_zero a b l m (sym (mul_is_steps a b l) ∙ h)

-- ---- powers

pub power_small : (i : ℕ) → power i < 256
power_small i = subst (λ z. z < 256) (sym (power_is_turned i)) (by.shift_small i 1 one_small)

pub power_add : (i j : ℕ) → power (i + j) ≡ mul (power i) (power j)
power_add i j =
    power_is_turned (i + j) ∙ by.shift_add i j 1 ∙ sym (by.steps_power i (turned j) (by.shift_small j 1 one_small))
    ∙ sym (mul_is_steps (turned i) (turned j) (by.shift_small i 1 one_small))
    ∙ ap₂ mul (sym (power_is_turned i)) (sym (power_is_turned j))

pub power_zero : power 0 ≡ 1
power_zero = power_is_turned 0 ∙ by.turned_zero

pub whole_turn : power 255 ≡ 1
whole_turn = power_is_turned 255 ∙ by.order

pub some_power : (a : ℕ) → a < 256 → a ≢ 0 → (i : ℕ) × (i < 255) × (power i ≡ a)
some_power a l z = go (by.zero_or_power a l)
  where
    go : (a ≡ 0) ⊎ ((i : ℕ) × (i < 255) × (a ≡ turned i)) → (i : ℕ) × (i < 255) × (power i ≡ a)
    go (inl e) = absurd (z e)
    go (inr r) = (r.0, r.1, power_is_turned r.0 ∙ sym r.2)

pub inverse : (i : ℕ) → i < 255 → mul (power i) (power (255 - i)) ≡ 1
inverse i l = let w : i + (255 - i) ≡ 255 = omega arith in sym (power_add i (255 - i)) ∙ ap power w ∙ whole_turn
