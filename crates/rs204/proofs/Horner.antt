-- Values of polynomials, highest coefficients first.
use Rattle.std.proofs.Common.{◌≡◌, ℕ, zero, suc, ◌<◌, true, List, [], ◌∷◌, ◌++◌, map, reverse, length, take, drop, refl, sym, ap, ap₂, ◌∙◌, arith, lit<, eqb, append-nil, append_assoc, length-append, length-drop}
use Rattle.std.specs.Prelude.{bit_xor}
use Rattle.std.proofs.lemmas.Bool.{agree_below_at, eqb-true}
use Rattle.std.proofs.lemmas.List.{reverse-append, drop_all}
use Rattle.std.proofs.Math.Seq.{take-append_seam}
use borrow.Rule.Slice.PartMut.{put_mid}
use Rattle.gf256.specs.Field.{mul, power, carryless, reduced}
use Rattle.gf256.proofs.FieldLaws.{mul_comm, mul_assoc, mul_small, xor_four, xor_small, mul_xor_right}
use Rattle.rs204.specs.Codes.{plus, AreBytes}
use Rattle.rs204.specs.Polynomials.{value_at}

-- the value of a polynomial, from its highest coefficient on
abbrev pub horner : ℕ → ℕ → List ℕ → ℕ
horner x s [] = s
horner x s (b ∷ w) = horner x (bit_xor b (mul x s)) w

pub horner_value : (x : ℕ) (m w : List ℕ) → value_at x (reverse (m ++ w)) ≡ horner x (value_at x (reverse m)) w
horner_value x m [] = ap (λ z. value_at x (reverse z)) (append-nil m)
horner_value x m (b ∷ w) =
    ap (λ z. value_at x (reverse z)) (sym (append_assoc m (b ∷ []) w)) ∙ horner_value x (m ++ b ∷ []) w
    ∙ ap (λ z. horner x (value_at x z) w) (reverse-append m (b ∷ []))

pub horner_append : (x s : ℕ) (p q : List ℕ) → horner x s (p ++ q) ≡ horner x (horner x s p) q
horner_append x s [] q = refl
horner_append x s (b ∷ p) q = horner_append x (bit_xor b (mul x s)) p q

pub horner_small : (x s : ℕ) (p : List ℕ) → x < 256 → s < 256 → AreBytes p → horner x s p < 256
horner_small x s [] l m h = m
horner_small x s (b ∷ p) l m h = horner_small x (bit_xor b (mul x s)) p l (xor_small b _ h.0 (mul_small x s l m)) h.1

pub horner_plus : (x s t : ℕ) (q r : List ℕ) → x < 256 → s < 256 → t < 256 → AreBytes q → AreBytes r → length q ≡ length r → horner x (bit_xor s t) (plus q r) ≡ bit_xor (horner x s q) (horner x t r)
horner_plus x s t [] [] l m n h k e = refl
horner_plus x s t [] (b ∷ r) l m n h k e = absurd (omega arith)
horner_plus x s t (a ∷ q) [] l m n h k e = absurd (omega arith)
horner_plus x s t (a ∷ q) (b ∷ r) l m n h k e =
    ap (λ z. horner x z (plus q r)) (ap (bit_xor (bit_xor a b)) (mul_xor_right x s t l m n) ∙ xor_four a b (mul x s) (mul x t))
    ∙ horner_plus x (bit_xor a (mul x s)) (bit_xor b (mul x t)) q r l (xor_small a _ h.0 (mul_small x s l m)) (xor_small b _ k.0 (mul_small x t l n)) h.1 k.1 (omega arith)

pub horner_map : (x f s : ℕ) (q : List ℕ) → x < 256 → f < 256 → s < 256 → AreBytes q → horner x (mul f s) (map (mul f) q) ≡ mul f (horner x s q)
horner_map x f s [] l m n h = refl
horner_map x f s (b ∷ q) l m n h =
    ap (λ z. horner x z (map (mul f) q))
    (ap (bit_xor (mul f b)) (sym (mul_assoc x f s l m n) ∙ ap (λ z. mul z s) (mul_comm x f l m) ∙ mul_assoc f x s m l n)
    ∙ sym (mul_xor_right f b (mul x s) m h.0 (mul_small x s l n)))
    ∙ horner_map x f (bit_xor b (mul x s)) q l m (xor_small b _ h.0 (mul_small x s l n)) h.1

-- the coefficients of the generator, that of x^16 first
abbrev pub generator : List ℕ
generator = 1 ∷ 59 ∷ 13 ∷ 104 ∷ 189 ∷ 68 ∷ 209 ∷ 30 ∷ 8 ∷ 163 ∷ 65 ∷ 41 ∷ 229 ∷ 98 ∷ 50 ∷ 36 ∷ 59 ∷ []

pub generator_bytes : AreBytes generator
generator_bytes = (lit< tt, (lit< tt, (lit< tt, (lit< tt, (lit< tt, (lit< tt, (lit< tt, (lit< tt, (lit< tt, (lit< tt, (lit< tt, (lit< tt, (lit< tt, (lit< tt, (lit< tt, (lit< tt, (lit< tt, tt)))))))))))))))))

pub generator_zero : (i : ℕ) → i < 16 → horner (power i) 0 generator ≡ 0
unfolding mul carryless reduced power
generator_zero i l = eqb-true _ _ (agree_below_at (λ i. eqb (horner (power i) 0 generator) 0) (λ i. true) 16 i refl l)

pub append_bytes : (xs ys : List ℕ) → AreBytes xs → AreBytes ys → AreBytes (xs ++ ys)
append_bytes [] ys s t = t
append_bytes (x ∷ xs) ys s t = (s.0, append_bytes xs ys s.1 t)

pub take_bytes : (n : ℕ) (xs : List ℕ) → AreBytes xs → AreBytes (take n xs)
take_bytes zero xs s = tt
take_bytes (suc n) [] s = tt
take_bytes (suc n) (x ∷ xs) s = (s.0, take_bytes n xs s.1)

pub put_behind : (m y z : List ℕ) → length m ≡ 188 → length z ≡ 16 → put_mid 188 16 (m ++ z) y ≡ m ++ y
put_behind m y z l k =
    let front : take 188 (m ++ z) ≡ m = ap (λ n. take n (m ++ z)) (sym l) ∙ take-append_seam m z in
    let none : drop 16 (drop 188 (m ++ z)) ≡ [] = drop_all 16 (drop 188 (m ++ z)) (omega (arith, length-drop 188 (m ++ z), length-append m z)) in
    ap₂ (λ (a b : List ℕ). a ++ (y ++ b)) front none ∙ ap (λ b. m ++ b) (append-nil y)
