-- Bits of 64-bit words under AND, OR, NOT and shifts.
use Rattle.std.proofs.Common.{◌≡◌, ℕ, zero, suc, ◌+◌, ◌-◌, ◌*◌, ◌/◌, ◌%◌, ◌^◌, ◌<◌, ◌≤◌, min, max, Bool, true, false, not, ◌&&◌, ◌||◌, ◌⊎◌, inl, inr, refl, sym, ap, ◌∙◌, arith, eqb, bit_and, bit_or, mod-lt, lit<}
use Rattle.std.proofs.Math.Nat.{mod-add-div', one-le-pow}
use Rattle.std.specs.Bool.{nat_lt}
use Rattle.std.specs.Int.{bit_at, bit_not, w64}
use Rattle.std.proofs.lemmas.Bool.{cases_lt, cases_Bool, lt-ltb, ltb-true, agree_below_at}
use Rattle.std.proofs.lemmas.Nat.Bits.{bit_at_and, bit_at_or, bit_at_not, bit_at-lt, bit_at_cat_low, bit_at_cat_high, bit_at-zero}
use Rattle.spec_words.specs.Bits.{is_set}

pub not_lt : (k s : ℕ) → s ≤ k → nat_lt k s ≡ false
not_lt k s l = go (cases_Bool (nat_lt k s))
  where
    go : (nat_lt k s ≡ true) ⊎ (nat_lt k s ≡ false) → nat_lt k s ≡ false
    go (inl e) = absurd (omega (arith, ltb-true k s e))
    go (inr e) = e

pub pow-pos : (s : ℕ) → 0 < 2 ^ s
pow-pos s = one-le-pow s 2 (lit< tt)

either : (x y : ℕ) → x < 2 → y < 2 → eqb (max x y) 1 ≡ (eqb x 1 || eqb y 1)
either zero zero h k = refl
either zero (suc zero) h k = refl
either (suc zero) zero h k = refl
either (suc zero) (suc zero) h k = refl
either (suc (suc x)) y h k = absurd (omega arith)
either x (suc (suc y)) h k = absurd (omega arith)

both : (x y : ℕ) → x < 2 → y < 2 → eqb (min x y) 1 ≡ (eqb x 1 && eqb y 1)
both zero zero h k = refl
both zero (suc zero) h k = refl
both (suc zero) zero h k = refl
both (suc zero) (suc zero) h k = refl
both (suc (suc x)) y h k = absurd (omega arith)
both x (suc (suc y)) h k = absurd (omega arith)

other : (x : ℕ) → x < 2 → eqb (1 - x) 1 ≡ not (eqb x 1)
other zero h = refl
other (suc zero) h = refl
other (suc (suc x)) h = absurd (omega arith)

pub set_or : (a b k : ℕ) → is_set (bit_or a b) k ≡ (is_set a k || is_set b k)
set_or a b k = ap (λ z. eqb z 1) (bit_at_or a b k) ∙ either (bit_at a k) (bit_at b k) (bit_at-lt a k) (bit_at-lt b k)

pub set_and : (a b k : ℕ) → is_set (bit_and a b) k ≡ (is_set a k && is_set b k)
set_and a b k = ap (λ z. eqb z 1) (bit_at_and a b k) ∙ both (bit_at a k) (bit_at b k) (bit_at-lt a k) (bit_at-lt b k)

pub set_not : (n k : ℕ) → n < 2 ^ 64 → k < 64 → is_set (bit_not w64 n) k ≡ not (is_set n k)
set_not n k h l = ap (λ z. eqb z 1) (bit_at_not w64 n k h l) ∙ other (bit_at n k) (bit_at-lt n k)

pub whole : (n w : ℕ) → n / 2 ^ w * 2 ^ w + n % 2 ^ w ≡ n
whole n w = omega (arith, mod-add-div' n (2 ^ w))

pub set_low : (n w k : ℕ) → k < w → is_set (n % 2 ^ w) k ≡ is_set n k
set_low n w k l = ap (λ z. eqb z 1) (sym (bit_at_cat_low (n / 2 ^ w) w (n % 2 ^ w) k l) ∙ ap (λ z. bit_at z k) (whole n w))

pub set_shr : (n k : ℕ) → is_set (n / 2 ^ 32) k ≡ is_set n (k + 32)
set_shr n k =
    let e : k + 32 - 32 ≡ k = omega arith in
    let f : bit_at (n / 2 ^ 32 * 2 ^ 32 + n % 2 ^ 32) (k + 32) ≡ bit_at (n / 2 ^ 32) (k + 32 - 32) = bit_at_cat_high (n / 2 ^ 32) 32 (n % 2 ^ 32) (k + 32) (mod-lt n (lit< tt)) (omega arith) in
    ap (λ z. eqb z 1) (sym (ap (bit_at (n / 2 ^ 32)) e) ∙ sym f ∙ ap (λ z. bit_at z (k + 32)) (whole n 32))

plus_none : (n : ℕ) → n + 0 ≡ n
plus_none n = omega arith

pub set_up : (x s k : ℕ) → is_set (x * 2 ^ s) k ≡ (not (nat_lt k s) && is_set x (k - s))
set_up x s k = go (cases_lt k s)
  where
    go : (k < s) ⊎ (s ≤ k) → is_set (x * 2 ^ s) k ≡ (not (nat_lt k s) && is_set x (k - s))
    go (inl l) = ap (λ z. eqb (bit_at z k) 1) (sym (plus_none (x * 2 ^ s))) ∙ ap (λ z. eqb z 1) (bit_at_cat_low x s 0 k l ∙ bit_at-zero k) ∙ ap (λ b. not b && is_set x (k - s)) (sym (lt-ltb k s l))
    go (inr l) = ap (λ z. eqb (bit_at z k) 1) (sym (plus_none (x * 2 ^ s))) ∙ ap (λ z. eqb z 1) (bit_at_cat_high x s 0 k (pow-pos s) l) ∙ ap (λ b. not b && is_set x (k - s)) (sym (not_lt k s l))

pub set_shl : (x s k : ℕ) → k < 64 → is_set (x * 2 ^ s % 2 ^ 64) k ≡ (not (nat_lt k s) && is_set x (k - s))
set_shl x s k l = set_low (x * 2 ^ s) 64 k l ∙ set_up x s k

pub ones32 : (k : ℕ) → k < 32 → is_set 4294967295 k ≡ true
ones32 k l = agree_below_at (λ k. is_set 4294967295 k) (λ k. true) 32 k refl l

pub and_true : (a : Bool) → (a && true) ≡ a
and_true true = refl
and_true false = refl
