-- The product modulo the polynomial is the product step by step.
use Rattle.std.proofs.Common.{◌≡◌, ℕ, zero, suc, ◌+◌, ◌*◌, ◌/◌, ◌%◌, ◌<◌, ◌≤◌, ◌^◌, ◌⊎◌, inl, inr, Bool, refl, sym, ap, ap₂, ◌∙◌, arith, eqb, lit<, add-zero, rules}
use Rattle.std.specs.Prelude.{bit_xor}
use Rattle.std.specs.Int.{bit_at}
use Rattle.std.proofs.lemmas.Bool.{eqb-true}
use Rattle.std.proofs.lemmas.Nat.{xor_block}
use Rattle.std.proofs.lemmas.Nat.Bits.{bit_at_xor, bit_at-lt, bit_at-zero, bit_at_lowest, bit_at-suc}
use native.Mathlib.Nat.{zero-mul, one-mul, mul-zero}
use lib.Bits.{xor_assoc, xor_comm, xor_zero_r, xor_zero_l, xor_self}
use Rattle.gf256.specs.Field.{carryless, reduced, mul, power}
use Rattle.gf256.proofs.Steps.{shifted, mul_bits, steps, shift_by, turned, digit_cases, digit_times, xor_four, shift_more, all_below, all_below_at, shift_small, one_small}

-- ---- linear in the left factor

wide_xor : (k a b : ℕ) → 0 < 2 ^ k → bit_xor a b * 2 ^ k ≡ bit_xor (a * 2 ^ k) (b * 2 ^ k)
wide_xor k a b some = sym (simp add-zero at (xor_block k a b 0 0 some some))

some_pow : (k : ℕ) → 0 < 2 ^ k
some_pow k = search rules

carryless_xor : (k a b c : ℕ) → carryless k (bit_xor a b) c ≡ bit_xor (carryless k a c) (carryless k b c)
unfolding carryless
carryless_xor zero a b c = refl
carryless_xor (suc k) a b c =
    ap₂ bit_xor (ap (λ z. bit_at c k * z) (wide_xor k a b (some_pow k)) ∙ digit_times (bit_at c k) (a * 2 ^ k) (b * 2 ^ k) (bit_at-lt c k)) (carryless_xor k a b c)
    ∙ xor_four (bit_at c k * (a * 2 ^ k)) (bit_at c k * (b * 2 ^ k)) (carryless k a c) (carryless k b c)

digit_sum : (x y m : ℕ) → x < 2 → y < 2 → (x + y) % 2 * m ≡ bit_xor (x * m) (y * m)
digit_sum x y m h k = go (digit_cases x h) (digit_cases y k)
  where
    go : (x ≡ 0) ⊎ (x ≡ 1) → (y ≡ 0) ⊎ (y ≡ 1) → (x + y) % 2 * m ≡ bit_xor (x * m) (y * m)
    go (inl e) (inl f) = rw (e, f) (simp zero-mul)
    go (inl e) (inr f) = rw (e, f) (simp (zero-mul, one-mul, xor_zero_l))
    go (inr e) (inl f) = rw (e, f) (simp (zero-mul, one-mul, xor_zero_r))
    go (inr e) (inr f) = rw (e, f) (simp (zero-mul, one-mul, xor_self))

reduced_xor : (k a b : ℕ) → reduced k (bit_xor a b) ≡ bit_xor (reduced k a) (reduced k b)
unfolding reduced
reduced_xor zero a b = refl
reduced_xor (suc k) a b =
    ap (λ z. reduced k (bit_xor (bit_xor a b) (z * (285 * 2 ^ k)))) (bit_at_xor a b (8 + k))
    ∙ ap (λ z. reduced k (bit_xor (bit_xor a b) z)) (digit_sum (bit_at a (8 + k)) (bit_at b (8 + k)) (285 * 2 ^ k) (bit_at-lt a (8 + k)) (bit_at-lt b (8 + k)))
    ∙ ap (reduced k) (xor_four a b (bit_at a (8 + k) * (285 * 2 ^ k)) (bit_at b (8 + k) * (285 * 2 ^ k)))
    ∙ reduced_xor k (bit_xor a (bit_at a (8 + k) * (285 * 2 ^ k))) (bit_xor b (bit_at b (8 + k) * (285 * 2 ^ k)))

pub mul_xor_left : (a b c : ℕ) → mul (bit_xor a b) c ≡ bit_xor (mul a c) (mul b c)
unfolding mul
mul_xor_left a b c = ap (reduced 7) (carryless_xor 8 a b c) ∙ reduced_xor 7 (carryless 8 a c) (carryless 8 b c)

reduced_zero : reduced 7 0 ≡ 0
unfolding reduced
reduced_zero = refl

zero_carries : (k b : ℕ) → carryless k 0 b ≡ 0
unfolding carryless
zero_carries zero b = refl
zero_carries (suc k) b = ap₂ bit_xor (ap (λ z. bit_at b k * z) (zero-mul (2 ^ k)) ∙ mul-zero (bit_at b k)) (zero_carries k b)

carries_zero : (k a : ℕ) → carryless k a 0 ≡ 0
unfolding carryless
carries_zero zero a = refl
carries_zero (suc k) a = ap₂ bit_xor (ap (λ z. z * (a * 2 ^ k)) (bit_at-zero k) ∙ zero-mul (a * 2 ^ k)) (carries_zero k a)

pub mul_zero_left : (b : ℕ) → mul 0 b ≡ 0
unfolding mul
mul_zero_left b = ap (reduced 7) (zero_carries 8 b) ∙ reduced_zero

pub mul_zero_right : (a : ℕ) → mul a 0 ≡ 0
unfolding mul
mul_zero_right a = ap (reduced 7) (carries_zero 8 a) ∙ reduced_zero

-- ---- bit by bit

unfoldable by_bits : ℕ → ℕ → ℕ → ℕ
by_bits zero a b = 0
by_bits (suc k) a b = bit_xor (bit_at b k * shift_by k a) (by_bits k a b)

abbrev one_bit : ℕ → ℕ → Bool
one_bit k a = eqb (reduced 7 (a * 2 ^ k)) (shift_by k a)

one_bit_table : (k a : ℕ) → k < 8 → a < 256 → reduced 7 (a * 2 ^ k) ≡ shift_by k a
unfolding reduced shift_by shifted
one_bit_table k a l m = eqb-true _ _ (all_below_at (λ a. one_bit k a) 256 a (all_below_at (λ k. all_below (λ a. one_bit k a) 256) 8 k refl l) m)

digit_reduced : (d a : ℕ) → d < 2 → reduced 7 (d * a) ≡ d * reduced 7 a
digit_reduced d a h = go (digit_cases d h)
  where
    go : (d ≡ 0) ⊎ (d ≡ 1) → reduced 7 (d * a) ≡ d * reduced 7 a
    go (inl e) = rw e (simp zero-mul reduced_zero)
    go (inr e) = rw e (simp one-mul)

reduced_bits : (k a b : ℕ) → k ≤ 8 → a < 256 → reduced 7 (carryless k a b) ≡ by_bits k a b
unfolding carryless by_bits
reduced_bits zero a b l m = reduced_zero
reduced_bits (suc k) a b l m =
    reduced_xor 7 (bit_at b k * (a * 2 ^ k)) (carryless k a b)
    ∙ ap₂ bit_xor (digit_reduced (bit_at b k) (a * 2 ^ k) (bit_at-lt b k) ∙ ap (λ z. bit_at b k * z) (one_bit_table k a (omega arith) m)) (reduced_bits k a b (omega arith) m)

lowest_first : (k a b : ℕ) → by_bits (suc k) a b ≡ bit_xor (b % 2 * a) (by_bits k (shifted a) (b / 2))
unfolding by_bits shift_by
lowest_first zero a b = ap (λ z. bit_xor (z * a) 0) (bit_at_lowest b)
lowest_first (suc k) a b =
    ap (bit_xor (bit_at b (suc k) * shift_by (suc k) a)) (lowest_first k a b)
    ∙ ap₂ (λ d s. bit_xor (d * s) (bit_xor (b % 2 * a) (by_bits k (shifted a) (b / 2)))) (bit_at-suc b k) (sym (shift_more k a))
    ∙ sym (xor_assoc (bit_at (b / 2) k * shift_by k (shifted a)) (b % 2 * a) (by_bits k (shifted a) (b / 2)))
    ∙ ap (λ z. bit_xor z (by_bits k (shifted a) (b / 2))) (xor_comm (bit_at (b / 2) k * shift_by k (shifted a)) (b % 2 * a))
    ∙ xor_assoc (b % 2 * a) (bit_at (b / 2) k * shift_by k (shifted a)) (by_bits k (shifted a) (b / 2))

bits_same : (k a b : ℕ) → by_bits k a b ≡ mul_bits k a b
unfolding by_bits mul_bits
bits_same zero a b = refl
bits_same (suc k) a b = lowest_first k a b ∙ ap (bit_xor (b % 2 * a)) (bits_same k (shifted a) (b / 2))

pub mul_is_steps : (a b : ℕ) → a < 256 → mul a b ≡ steps a b
unfolding mul steps
mul_is_steps a b l = reduced_bits 8 a b (omega arith) l ∙ bits_same 8 a b

-- ---- powers

two_shifts : (a : ℕ) → a < 256 → steps 2 a ≡ shifted a
unfolding steps mul_bits shifted
two_shifts a l = eqb-true _ _ (all_below_at (λ a. eqb (steps 2 a) (shifted a)) 256 a refl l)

pub power_is_turned : (i : ℕ) → power i ≡ turned i
unfolding power shift_by
power_is_turned zero = refl
power_is_turned (suc i) = ap (mul 2) (power_is_turned i) ∙ mul_is_steps 2 (turned i) (lit< tt) ∙ two_shifts (turned i) (shift_small i 1 one_small)
