-- The bits in which bytes and words differ.
use Rattle.std.proofs.Common.{◌≡◌, ℕ, zero, suc, ◌+◌, ◌*◌, ◌%◌, ◌^◌, ◌<◌, ◌≤◌, Bool, true, false, not, cond, eqb, List, ◌++◌, ◌∷◌, [], refl, sym, ap, ap₂, ◌∙◌, arith, subst}
use Rattle.std.specs.Prelude.{bit_xor, count_ones, count_by, sum_by, slice_index}
use Rattle.std.specs.Bool.{beq}
use Rattle.std.specs.Int.{bit_at}
use Rattle.std.specs.Int.Count.{ones}
use Rattle.std.specs.List.{range_with_len}
use Rattle.std.proofs.lemmas.Nat.Bits.{bit_at_xor, bit_at-lt}
use Rattle.std.proofs.lemmas.Nat.{xor_lt}
use Rattle.std.proofs.lemmas.List.Sums.{sum_by_push, sum_by-cons, count_by-le-length}
use Rattle.spec_words.specs.Bits.{is_set}
use Rattle.spec_words.specs.Words.{numbers}
use Rattle.pilots.proofs.Popcount.{ones_low}
use Rattle.measurement.specs.SuperFrames.{bits_apart}
use Rattle.measure_words.specs.Sums.{byte_apart}
use Rattle.measurement.proofs.Lists.{range_counts}

odd_sum : (a b : ℕ) → a < 2 → b < 2 → eqb ((a + b) % 2) 1 ≡ not (beq (eqb a 1) (eqb b 1))
odd_sum zero zero la lb = refl
odd_sum zero (suc zero) la lb = refl
odd_sum zero (suc (suc b)) la lb = absurd (omega (arith, lb))
odd_sum (suc zero) zero la lb = refl
odd_sum (suc zero) (suc zero) la lb = refl
odd_sum (suc zero) (suc (suc b)) la lb = absurd (omega (arith, lb))
odd_sum (suc (suc a)) b la lb = absurd (omega (arith, la))

-- a bit of the sum modulo 2 says whether the bits differ
differs : (a b i : ℕ) → is_set (bit_xor a b) i ≡ not (beq (is_set a i) (is_set b i))
differs a b i = ap (λ (z : ℕ). eqb z 1) (bit_at_xor a b i) ∙ odd_sum (bit_at a i) (bit_at b i) (bit_at-lt a i) (bit_at-lt b i)

small_is : (n : ℕ) → n < 256 → n % 2 ^ 8 ≡ n
small_is n l = omega (arith, l)

pub ones_apart : (a b x : ℕ) → a < 256 → b < 256 → x ≡ bit_xor a b → count_ones x ≡ count_by (λ i. not (beq (is_set a i) (is_set b i))) (numbers 8)
unfolding numbers
ones_apart a b x la lb e =
    let l : x < 256 = subst (λ (z : ℕ). z < 256) (sym e) (xor_lt 8 a b la lb) in
    ap ones (sym (small_is x l)) ∙ ones_low 8 x ∙ ap (λ (z : ℕ). count_by (is_set z) (range_with_len 0 8)) e
    ∙ range_counts (is_set (bit_xor a b)) (λ i. not (beq (is_set a i) (is_set b i))) 0 8 (λ k p q. differs a b k)

-- ---- words

pub range_push : (a n : ℕ) → range_with_len a (n + 1) ≡ range_with_len a n ++ (a + n) ∷ []
range_push a zero = let e : a + 0 ≡ a = omega arith in ap (λ (z : ℕ). z ∷ []) (sym e)
range_push a (suc n) =
    let e : suc n + 1 ≡ suc (n + 1) = omega arith in
    let f : a + 1 + n ≡ a + suc n = omega arith in
    ap (range_with_len a) e ∙ ap (λ (z : List ℕ). a ∷ z) (range_push (a + 1) n) ∙ ap (λ (z : ℕ). a ∷ (range_with_len (a + 1) n ++ z ∷ [])) f

sum_none : (f : ℕ → ℕ) (a n : ℕ) → ((k : ℕ) → f k ≡ 0) → sum_by f (range_with_len a n) ≡ 0
sum_none f a zero h = refl
sum_none f a (suc n) h = sum_by-cons f a (range_with_len (a + 1) n) ∙ ap₂ (λ (x y : ℕ). x + y) (h a) (sum_none f (a + 1) n h)

alike : (b : Bool) → not (beq b b) ≡ false
alike true = refl
alike false = refl

-- a word differs from itself in no bit
pub none_apart : (w : List ℕ) → bits_apart w w ≡ 0
unfolding numbers
none_apart w = sum_none (byte_apart w w) 0 204 (λ p. sum_none (λ i. cond (not (beq (is_set (slice_index w p) i) (is_set (slice_index w p) i))) 1 0) 0 8 (λ i. ap (λ (b : Bool). cond b 1 0) (alike (is_set (slice_index w p) i))))

-- the first p bytes
pub record Apart (v w : List ℕ) (p bits : ℕ) : Type 0 where
  pub is : bits ≡ sum_by (byte_apart v w) (numbers p)
  pub few : bits ≤ 8 * p

pub apart_none : (v w : List ℕ) → Apart v w 0 0
unfolding numbers
apart_none v w = record { is = refl; few = omega arith }

pub apart_more : (v w : List ℕ) (p bits k : ℕ) → Apart v w p bits → k ≡ byte_apart v w p → k ≤ 8 → Apart v w (p + 1) (bits + k)
unfolding numbers
apart_more v w p bits k h e l = record {
  is = ap₂ (λ (x y : ℕ). x + y) h.is e ∙ sym (ap (sum_by (byte_apart v w)) (range_push 0 p) ∙ sum_by_push (byte_apart v w) (range_with_len 0 p) (0 + p) ∙ ap (λ (z : ℕ). sum_by (byte_apart v w) (range_with_len 0 p) + byte_apart v w z) (let none : 0 + p ≡ p = omega arith in none));
  few = omega (arith, h.few, l);
}

pub apart_few : (a b : ℕ) → count_by (λ i. not (beq (is_set a i) (is_set b i))) (numbers 8) ≤ 8
unfolding numbers
apart_few a b = count_by-le-length (λ i. not (beq (is_set a i) (is_set b i))) (range_with_len 0 8)

pub ones_few : (a b : ℕ) → a < 256 → b < 256 → count_ones (bit_xor a b) ≤ 8
ones_few a b la lb = subst (λ (z : ℕ). z ≤ 8) (sym (ones_apart a b _ la lb refl)) (apart_few a b)
