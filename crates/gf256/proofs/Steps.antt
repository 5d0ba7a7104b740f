-- The product step by step: shifts by x, and the laws of products made from them.
use Rattle.std.proofs.Common.{◌≡◌, ℕ, zero, suc, ◌+◌, ◌*◌, ◌/◌, ◌%◌, ◌<◌, ◌≤◌, ◌-◌, ◌⊎◌, inl, inr, Bool, true, false, ◌&&◌, ◌||◌, List, [], ◌∷◌, refl, sym, ap, ap₂, ◌∙◌, subst, arith, eqb, lit<, mod-lt, true≢false, add-zero, ltb}
use Rattle.std.specs.Prelude.{bit_xor}
use Rattle.std.specs.Int.{bit_at}
use Rattle.std.proofs.lemmas.Bool.{eqb-true, and_parts, or_cases, cases_lt, ltb-true}
use Rattle.std.proofs.lemmas.Nat.Bits.{bit_at_xor, bit_at-lt}
use native.Mathlib.Nat.{zero-mul, one-mul, mul-zero, zero-add, suc-add, add_comm}
use lib.Bits.{xor_comm, xor_assoc, xor_block}

-- x times an element: x^8 is x^4 + x^3 + x^2 + 1
unfoldable pub shifted : ℕ → ℕ
shifted a = bit_xor (a * 2) (bit_at a 7 * 285)

-- the sum of a times x^i over the bits i of b
unfoldable pub mul_bits : ℕ → ℕ → ℕ → ℕ
mul_bits zero a b = 0
mul_bits (suc k) a b = bit_xor (b % 2 * a) (mul_bits k (shifted a) (b / 2))

unfoldable pub steps : ℕ → ℕ → ℕ
steps a b = mul_bits 8 a b

unfoldable pub shift_by : ℕ → ℕ → ℕ
shift_by zero a = a
shift_by (suc i) a = shifted (shift_by i a)

abbrev pub turned : ℕ → ℕ
turned i = shift_by i 1

-- ---- sums

pub xor_four : (a b c d : ℕ) → bit_xor (bit_xor a b) (bit_xor c d) ≡ bit_xor (bit_xor a c) (bit_xor b d)
xor_four a b c d = simp (xor_assoc, xor_comm, xor_left_comm)
  where
    xor_left_comm : (a b c : ℕ) → bit_xor a (bit_xor b c) ≡ bit_xor b (bit_xor a c)
    xor_left_comm a b c = sym (xor_assoc a b c) ∙ ap (λ z. bit_xor z c) (xor_comm a b) ∙ xor_assoc b a c

pub digit_cases : (d : ℕ) → d < 2 → (d ≡ 0) ⊎ (d ≡ 1)
digit_cases zero h = inl refl
digit_cases (suc zero) h = inr refl
digit_cases (suc (suc d)) h = absurd (omega arith)

pub digit_times : (d a b : ℕ) → d < 2 → d * bit_xor a b ≡ bit_xor (d * a) (d * b)
digit_times d a b h = go (digit_cases d h)
  where
    go : (d ≡ 0) ⊎ (d ≡ 1) → d * bit_xor a b ≡ bit_xor (d * a) (d * b)
    go (inl e) = rw e (simp zero-mul)
    go (inr e) = rw e (simp one-mul)

double_xor : (a b : ℕ) → bit_xor a b * 2 ≡ bit_xor (a * 2) (b * 2)
double_xor a b = sym (simp add-zero at (xor_block 1 a b 0 0 (lit< tt) (lit< tt)))

bits_times : (x y : ℕ) → x < 2 → y < 2 → (x + y) % 2 * 285 ≡ bit_xor (x * 285) (y * 285)
bits_times x y h k = go (digit_cases x h) (digit_cases y k)
  where
    go : (x ≡ 0) ⊎ (x ≡ 1) → (y ≡ 0) ⊎ (y ≡ 1) → (x + y) % 2 * 285 ≡ bit_xor (x * 285) (y * 285)
    go (inl e) (inl f) = rw (e, f)
    go (inl e) (inr f) = rw (e, f)
    go (inr e) (inl f) = rw (e, f)
    go (inr e) (inr f) = rw (e, f)

pub shifted_xor : (a b : ℕ) → shifted (bit_xor a b) ≡ bit_xor (shifted a) (shifted b)
unfolding shifted
shifted_xor a b =
    ap₂ bit_xor (double_xor a b) (ap (λ z. z * 285) (bit_at_xor a b 7) ∙ bits_times (bit_at a 7) (bit_at b 7) (bit_at-lt a 7) (bit_at-lt b 7))
    ∙ xor_four (a * 2) (b * 2) (bit_at a 7 * 285) (bit_at b 7 * 285)

pub shifted_zero : shifted 0 ≡ 0
unfolding shifted
shifted_zero = refl

digit_shifted : (d a : ℕ) → d < 2 → shifted (d * a) ≡ d * shifted a
digit_shifted d a h = go (digit_cases d h)
  where
    go : (d ≡ 0) ⊎ (d ≡ 1) → shifted (d * a) ≡ d * shifted a
    go (inl e) = rw e (simp zero-mul shifted_zero)
    go (inr e) = rw e (simp one-mul)

-- ---- products by the bits

bits_xor_left : (k a b c : ℕ) → mul_bits k (bit_xor a b) c ≡ bit_xor (mul_bits k a c) (mul_bits k b c)
unfolding mul_bits
bits_xor_left zero a b c = refl
bits_xor_left (suc k) a b c =
    ap₂ bit_xor (digit_times (c % 2) a b (mod-lt c (lit< tt))) (ap (λ z. mul_bits k z (c / 2)) (shifted_xor a b) ∙ bits_xor_left k (shifted a) (shifted b) (c / 2))
    ∙ xor_four (c % 2 * a) (c % 2 * b) (mul_bits k (shifted a) (c / 2)) (mul_bits k (shifted b) (c / 2))

bits_shifted : (k a b : ℕ) → mul_bits k (shifted a) b ≡ shifted (mul_bits k a b)
unfolding mul_bits
bits_shifted zero a b = sym shifted_zero
bits_shifted (suc k) a b =
    ap₂ bit_xor (sym (digit_shifted (b % 2) a (mod-lt b (lit< tt)))) (bits_shifted k (shifted a) (b / 2))
    ∙ sym (shifted_xor (b % 2 * a) (mul_bits k (shifted a) (b / 2)))

bits_by : (k i a b : ℕ) → mul_bits k (shift_by i a) b ≡ shift_by i (mul_bits k a b)
unfolding shift_by
bits_by k zero a b = refl
bits_by k (suc i) a b = bits_shifted k (shift_by i a) b ∙ ap shifted (bits_by k i a b)

-- ---- tests over the whole field

abbrev pub all_below : (ℕ → Bool) → ℕ → Bool
all_below t zero = true
all_below t (suc n) = t n && all_below t n

pub all_below_at : (t : ℕ → Bool) (n k : ℕ) → all_below t n ≡ true → k < n → t k ≡ true
all_below_at t zero k h l = absurd (omega arith)
all_below_at t (suc n) k h l = go (cases_lt k n) (all_below_at t n k (and_parts _ _ h).1)
  where
    go : (k < n) ⊎ (n ≤ k) → (k < n → t k ≡ true) → t k ≡ true
    go (inl m) f = f m
    go (inr m) f = let e : k ≡ n = omega arith in rw e (and_parts _ _ h).0

pub one_left : (b : ℕ) → b < 256 → steps 1 b ≡ b
unfolding steps mul_bits shifted
one_left b l = eqb-true _ _ (all_below_at (λ b. eqb (steps 1 b) b) 256 b refl l)

abbrev powers : ℕ → ℕ → List ℕ
powers zero a = []
powers (suc k) a = a ∷ powers k (shifted a)

abbrev among : ℕ → List ℕ → Bool
among a [] = false
among a (b ∷ bs) = eqb a b || among a bs

pub shift_more : (i a : ℕ) → shift_by i (shifted a) ≡ shift_by (suc i) a
unfolding shift_by
shift_more zero a = refl
shift_more (suc i) a = ap shifted (shift_more i a)

among_powers : (k a b : ℕ) → among a (powers k b) ≡ true → (i : ℕ) × (i < k) × (a ≡ shift_by i b)
unfolding shift_by
among_powers zero a b h = absurd (true≢false (sym h))
among_powers (suc k) a b h = go (or_cases _ _ h) (among_powers k a (shifted b))
  where
    go : (eqb a b ≡ true) ⊎ (among a (powers k (shifted b)) ≡ true) → (among a (powers k (shifted b)) ≡ true → (i : ℕ) × (i < k) × (a ≡ shift_by i (shifted b))) → (i : ℕ) × (i < suc k) × (a ≡ shift_by i b)
    go (inl e) f = (0, omega arith, eqb-true a b e)
    go (inr e) f = let r = f e in (suc r.0, omega (arith, r.1), r.2 ∙ shift_more r.0 b)

all_among : List ℕ → Bool
all_among ps = all_below (λ a. eqb a 0 || among a ps) 256

pub zero_or_power : (a : ℕ) → a < 256 → (a ≡ 0) ⊎ ((i : ℕ) × (i < 255) × (a ≡ turned i))
unfolding shifted all_among
zero_or_power a l = go (or_cases _ _ (all_below_at (λ a. eqb a 0 || among a (powers 255 1)) 256 a all_refl l))
  where
    all_refl : all_among (powers 255 1) ≡ true
    all_refl = refl

    go : (eqb a 0 ≡ true) ⊎ (among a (powers 255 1) ≡ true) → (a ≡ 0) ⊎ ((i : ℕ) × (i < 255) × (a ≡ turned i))
    go (inl e) = inl (eqb-true a 0 e)
    go (inr e) = inr (among_powers 255 a 1 e)

-- ---- the laws

pub shift_xor : (i a b : ℕ) → shift_by i (bit_xor a b) ≡ bit_xor (shift_by i a) (shift_by i b)
unfolding shift_by
shift_xor zero a b = refl
shift_xor (suc i) a b = ap shifted (shift_xor i a b) ∙ shifted_xor (shift_by i a) (shift_by i b)

pub shift_zero : (i : ℕ) → shift_by i 0 ≡ 0
unfolding shift_by
shift_zero zero = refl
shift_zero (suc i) = ap shifted (shift_zero i) ∙ shifted_zero

pub shift_add : (i j a : ℕ) → shift_by (i + j) a ≡ shift_by i (shift_by j a)
unfolding shift_by
shift_add zero j a = ap (λ n. shift_by n a) (zero-add j)
shift_add (suc i) j a = ap (λ n. shift_by n a) (suc-add i j) ∙ ap shifted (shift_add i j a)

pub steps_power : (i b : ℕ) → b < 256 → steps (turned i) b ≡ shift_by i b
unfolding steps
steps_power i b l = bits_by 8 i 1 b ∙ ap (shift_by i) (one_left b l)

pub steps_zero_left : (b : ℕ) → steps 0 b ≡ 0
unfolding steps mul_bits
steps_zero_left b = go 8 b
  where
    go : (k b : ℕ) → mul_bits k 0 b ≡ 0
    go zero b = refl
    go (suc k) b = ap₂ bit_xor (mul-zero (b % 2)) (ap (λ z. mul_bits k z (b / 2)) shifted_zero ∙ go k (b / 2))

pub steps_zero_right : (a : ℕ) → steps a 0 ≡ 0
unfolding steps mul_bits
steps_zero_right a = go 8 a
  where
    go : (k a : ℕ) → mul_bits k a 0 ≡ 0
    go zero a = refl
    go (suc k) a = ap₂ bit_xor (zero-mul a) (go k (shifted a))

pub steps_xor_left : (a b c : ℕ) → steps (bit_xor a b) c ≡ bit_xor (steps a c) (steps b c)
unfolding steps
steps_xor_left a b c = bits_xor_left 8 a b c

shifted_small : (a : ℕ) → a < 256 → shifted a < 256
unfolding shifted
shifted_small a l = ltb-true _ _ (all_below_at (λ a. ltb (shifted a) 256) 256 a refl l)

pub shift_small : (i a : ℕ) → a < 256 → shift_by i a < 256
unfolding shift_by
shift_small zero a l = l
shift_small (suc i) a l = shifted_small (shift_by i a) (shift_small i a l)

pub steps_small : (a b : ℕ) → a < 256 → b < 256 → steps a b < 256
steps_small a b l m = go (zero_or_power a l)
  where
    go : (a ≡ 0) ⊎ ((i : ℕ) × (i < 255) × (a ≡ turned i)) → steps a b < 256
    go (inl e) = rw (e, steps_zero_left) (lit< tt)
    go (inr r) = subst (λ z. z < 256) (sym (ap (λ z. steps z b) r.2 ∙ steps_power r.0 b m)) (shift_small r.0 b m)

pub one_small : 1 < 256
one_small = lit< tt

pub steps_comm : (a b : ℕ) → a < 256 → b < 256 → steps a b ≡ steps b a
steps_comm a b l m = go (zero_or_power a l) (zero_or_power b m)
  where
    go : (a ≡ 0) ⊎ ((i : ℕ) × (i < 255) × (a ≡ turned i)) → (b ≡ 0) ⊎ ((i : ℕ) × (i < 255) × (b ≡ turned i)) → steps a b ≡ steps b a
    go (inl e) f = rw e (steps_zero_left b ∙ sym (steps_zero_right b))
    go (inr r) (inl f) = rw f (steps_zero_right a ∙ sym (steps_zero_left a))
    go (inr r) (inr s) =
        ap (λ z. steps z b) r.2 ∙ steps_power r.0 b m ∙ ap (shift_by r.0) s.2 ∙ sym (shift_add r.0 s.0 1)
        ∙ ap turned (add_comm r.0 s.0)
        ∙ shift_add s.0 r.0 1 ∙ ap (shift_by s.0) (sym r.2) ∙ sym (steps_power s.0 a l) ∙ ap (λ z. steps z a) (sym s.2)

pub steps_assoc : (a b c : ℕ) → a < 256 → b < 256 → c < 256 → steps (steps a b) c ≡ steps a (steps b c)
steps_assoc a b c l m n = go (zero_or_power a l) (zero_or_power b m)
  where
    go : (a ≡ 0) ⊎ ((i : ℕ) × (i < 255) × (a ≡ turned i)) → (b ≡ 0) ⊎ ((i : ℕ) × (i < 255) × (b ≡ turned i)) → steps (steps a b) c ≡ steps a (steps b c)
    go (inl e) f = rw e (ap (λ z. steps z c) (steps_zero_left b) ∙ steps_zero_left c ∙ sym (steps_zero_left (steps b c)))
    go (inr r) (inl f) = rw f (ap (λ z. steps z c) (steps_zero_right a) ∙ steps_zero_left c ∙ sym (steps_zero_right a) ∙ ap (steps a) (sym (steps_zero_left c)))
    go (inr r) (inr s) =
        let p : steps a b ≡ turned (r.0 + s.0) = ap (λ z. steps z b) r.2 ∙ steps_power r.0 b m ∙ ap (shift_by r.0) s.2 ∙ sym (shift_add r.0 s.0 1) in
        let q : steps b c ≡ shift_by s.0 c = ap (λ z. steps z c) s.2 ∙ steps_power s.0 c n in
        ap (λ z. steps z c) p ∙ steps_power (r.0 + s.0) c n ∙ shift_add r.0 s.0 c
        ∙ ap (shift_by r.0) (sym q) ∙ sym (steps_power r.0 (steps b c) (steps_small b c m n)) ∙ ap (λ z. steps z (steps b c)) (sym r.2)

pub order : shift_by 255 1 ≡ 1
unfolding shift_by shifted
order = refl

pub whole_turn : (b : ℕ) → b < 256 → shift_by 255 b ≡ b
whole_turn b l = sym (steps_power 255 b l) ∙ ap (λ z. steps z b) order ∙ one_left b l

-- a product is 0 only if a factor is
pub steps_no_zero : (a b : ℕ) → a < 256 → b < 256 → steps a b ≡ 0 → (a ≡ 0) ⊎ (b ≡ 0)
steps_no_zero a b l m h = go (zero_or_power a l)
  where
    go : (a ≡ 0) ⊎ ((i : ℕ) × (i < 255) × (a ≡ turned i)) → (a ≡ 0) ⊎ (b ≡ 0)
    go (inl e) = inl e
    go (inr r) =
        let z : shift_by r.0 b ≡ 0 = sym (steps_power r.0 b m) ∙ ap (λ z. steps z b) (sym r.2) ∙ h in
        let w : 255 - r.0 + r.0 ≡ 255 = omega (arith, r.1) in
        inr (sym (whole_turn b m) ∙ ap (λ n. shift_by n b) (sym w) ∙ shift_add (255 - r.0) r.0 b ∙ ap (shift_by (255 - r.0)) z ∙ shift_zero (255 - r.0))

pub inverse : (i : ℕ) → i < 255 → steps (turned i) (turned (255 - i)) ≡ 1
inverse i l =
    let w : i + (255 - i) ≡ 255 = omega arith in
    steps_power i (turned (255 - i)) (shift_small (255 - i) 1 one_small) ∙ sym (shift_add i (255 - i) 1) ∙ ap turned w ∙ order

pub turned_zero : turned 0 ≡ 1
unfolding shift_by
turned_zero = refl
