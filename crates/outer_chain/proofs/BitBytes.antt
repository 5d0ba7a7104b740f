-- Bytes spelled by bits.
use Rattle.std.proofs.Common.{◌≡◌, ℕ, zero, suc, ◌+◌, ◌-◌, ◌*◌, ◌/◌, ◌%◌, ◌<◌, Bool, true, eqb, List, [], ◌∷◌, ◌++◌, map, refl, ◌∙◌, ap, ap₂, arith}
use Rattle.std.specs.List.{range_with_len}
use Rattle.std.proofs.lemmas.Bool.{eqb-true, agree_below_at}
use Rattle.spec_words.specs.Words.{numbers}
use Rattle.spec_words.specs.Bits.{is_set}
use Rattle.forney.specs.Values.{values}
use Rattle.outer_chain.specs.Bits.{digit, bytes_of, bit_of_stream, ByteOfBits, FirstBits, MoreBits}

abbrev worth_of : ℕ → ℕ
worth_of b = digit (is_set b 7) 128 + digit (is_set b 6) 64 + digit (is_set b 5) 32 + digit (is_set b 4) 16 + digit (is_set b 3) 8 + digit (is_set b 2) 4 + digit (is_set b 1) 2 + digit (is_set b 0) 1

worth_same : (b : ℕ) → b < 256 → worth_of b ≡ b
worth_same b l = eqb-true _ _ (agree_below_at (λ b. eqb (worth_of b) b) (λ b. true) 256 b refl l)

pub byte_of_bits : ByteOfBits
unfolding bytes_of
byte_of_bits byte rest l = ap (λ b. b ∷ bytes_of rest) (worth_same byte l)

-- the values of a test from place i on
bits_from : (ℕ → Bool) → ℕ → ℕ → List Bool
bits_from g i zero = []
bits_from g i (suc n) = g i ∷ bits_from g (suc i) n

listed : (g : ℕ → Bool) (i n : ℕ) → map g (range_with_len i n) ≡ bits_from g i n
unfolding bits_from
listed g i zero = refl
listed g i (suc n) = let e : i + 1 ≡ suc i = omega arith in ap (λ (l : List Bool). g i ∷ l) (ap (λ k. map g (range_with_len k n)) e ∙ listed g (suc i) n)

bit_at_place : (f : ℕ → ℕ) (a j p : ℕ) → j < 8 → p ≡ 8 * a + j → bit_of_stream f p ≡ is_set (f a) (7 - j)
bit_at_place f a j p l e = ap₂ (λ x y. is_set (f x) y) (let q : p / 8 ≡ a = omega arith in q) (let q : 7 - p % 8 ≡ 7 - j = omega arith in q)

few : (g : ℕ → Bool) (i r : ℕ) → r < 8 → bytes_of (bits_from g i r) ≡ []
unfolding bits_from bytes_of
few g i zero l = refl
few g i (suc zero) l = refl
few g i (suc (suc zero)) l = refl
few g i (suc (suc (suc zero))) l = refl
few g i (suc (suc (suc (suc zero)))) l = refl
few g i (suc (suc (suc (suc (suc zero))))) l = refl
few g i (suc (suc (suc (suc (suc (suc zero)))))) l = refl
few g i (suc (suc (suc (suc (suc (suc (suc zero))))))) l = refl
few g i (suc (suc (suc (suc (suc (suc (suc (suc r)))))))) l = absurd (omega arith)

eight_digits : (a b c d e f g h a' b' c' d' e' f' g' h' : Bool) → a ≡ a' → b ≡ b' → c ≡ c' → d ≡ d' → e ≡ e' → f ≡ f' → g ≡ g' → h ≡ h'
    → digit a 128 + digit b 64 + digit c 32 + digit d 16 + digit e 8 + digit f 4 + digit g 2 + digit h 1 ≡ digit a' 128 + digit b' 64 + digit c' 32 + digit d' 16 + digit e' 8 + digit f' 4 + digit g' 2 + digit h' 1
eight_digits a b c d e f g h a' b' c' d' e' f' g' h' p q r s t u v w = cc

next_byte : (f : ℕ → ℕ) (a n : ℕ) → f a < 256 → bytes_of (bits_from (bit_of_stream f) (8 * a) (suc (suc (suc (suc (suc (suc (suc (suc n))))))))) ≡ f a ∷ bytes_of (bits_from (bit_of_stream f) (8 * suc a) n)
unfolding bits_from bytes_of
next_byte f a n l =
    let later : suc (suc (suc (suc (suc (suc (suc (suc (8 * a)))))))) ≡ 8 * suc a = omega arith in
    ap₂ (λ (x : ℕ) (xs : List ℕ). x ∷ xs)
    (eight_digits _ _ _ _ _ _ _ _ _ _ _ _ _ _ _ _
    (bit_at_place f a 0 (8 * a) (omega arith) (omega arith)) (bit_at_place f a 1 (suc (8 * a)) (omega arith) (omega arith))
    (bit_at_place f a 2 (suc (suc (8 * a))) (omega arith) (omega arith)) (bit_at_place f a 3 (suc (suc (suc (8 * a)))) (omega arith) (omega arith))
    (bit_at_place f a 4 (suc (suc (suc (suc (8 * a))))) (omega arith) (omega arith)) (bit_at_place f a 5 (suc (suc (suc (suc (suc (8 * a)))))) (omega arith) (omega arith))
    (bit_at_place f a 6 (suc (suc (suc (suc (suc (suc (8 * a))))))) (omega arith) (omega arith)) (bit_at_place f a 7 (suc (suc (suc (suc (suc (suc (suc (8 * a)))))))) (omega arith) (omega arith))
    ∙ worth_same (f a) l)
    (ap (λ i. bytes_of (bits_from (bit_of_stream f) i n)) later)

bytes_from : (f : ℕ → ℕ) (a m r : ℕ) → r < 8 → ((p : ℕ) → f p < 256) → bytes_of (bits_from (bit_of_stream f) (8 * a) (8 * m + r)) ≡ values f a m
unfolding values
bytes_from f a zero r l h = let e : 8 * 0 + r ≡ r = omega arith in ap (λ n. bytes_of (bits_from (bit_of_stream f) (8 * a) n)) e ∙ few (bit_of_stream f) (8 * a) r l
bytes_from f a (suc m) r l h =
    let e : 8 * suc m + r ≡ suc (suc (suc (suc (suc (suc (suc (suc (8 * m + r)))))))) = omega arith in
    ap (λ n. bytes_of (bits_from (bit_of_stream f) (8 * a) n)) e ∙ next_byte f a (8 * m + r) (h a) ∙ ap (λ (xs : List ℕ). f a ∷ xs) (bytes_from f (suc a) m r l h)

pub first_bits : FirstBits
unfolding numbers
first_bits f n h =
    let e : n ≡ 8 * (n / 8) + n % 8 = omega arith in
    ap bytes_of (listed (bit_of_stream f) 0 n) ∙ ap₂ (λ i k. bytes_of (bits_from (bit_of_stream f) i k)) (let z : 0 ≡ 8 * 0 = omega arith in z) e
    ∙ bytes_from f 0 (n / 8) (n % 8) (omega arith) h

pub more_bits : MoreBits
unfolding bytes_of
more_bits (a ∷ b ∷ c ∷ d ∷ e ∷ f ∷ g ∷ h ∷ bits) more = let r = more_bits bits more in (r.0, ap (λ (l : List ℕ). (digit a 128 + digit b 64 + digit c 32 + digit d 16 + digit e 8 + digit f 4 + digit g 2 + digit h 1) ∷ l) r.1)
more_bits bits more = (bytes_of (bits ++ more), refl)
