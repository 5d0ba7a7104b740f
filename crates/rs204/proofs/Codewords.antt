-- The remainder of a division characterises codewords, and gives the codeword of a message.
use Rattle.std.proofs.Common.{◌≡◌, ◌≢◌, ℕ, zero, suc, ◌+◌, ◌<◌, ◌≤◌, ◌⊎◌, inl, inr, Bool, true, false, cond, eqb, List, [], ◌∷◌, ◌++◌, map, reverse, length, take, drop, replicate, refl, sym, ap, ap₂, ◌∙◌, subst, arith, lit<, lit≤, length-append, length-take-le, length-drop, take-append-drop}
use Rattle.std.specs.Prelude.{bit_xor}
use Rattle.std.proofs.lemmas.Bool.{cases_lt, eq-eqb, eqb-true}
use Rattle.std.proofs.lemmas.List.{length-map, length-reverse, reverse-reverse}
use Rattle.std.proofs.Math.Seq.{take-append_seam}
use mathlib.Core.List.{reverse_aux}
use lib.Bits.{xor_self, xor_zero_r}
use Rattle.gf256.specs.Field.{mul, power}
use Rattle.gf256.proofs.FieldLaws.{mul_zero_right, one_right, power_small, xor_equal}
use Rattle.rs204.specs.Codes.{plus, AreBytes, IsCodeword, distance, first_powers, generator_tail, rest_of, codeword}
use Rattle.rs204.specs.Polynomials.{value_at}
use Rattle.rs204.specs.Division.{number, Holds}
use Rattle.rs204.specs.Laws.{IsCodewordOf}
use Rattle.rs204.proofs.Polynomials.{plus_bytes, codeword_root, first_bytes, too_many, AreZero}
use Rattle.rs204.proofs.Distance.{reverse_bytes, codewords_apart}
use Rattle.rs204.proofs.Locate.{codeword_from_roots, first_all_differ, first_roots, length-first}
use Rattle.rs204.proofs.Horner.{horner, horner_value, horner_append, horner_small, horner_plus, horner_map, generator, generator_bytes, generator_zero, append_bytes, take_bytes}
use Rattle.rs204.proofs.Dividing.{plus_ahead, zeros_plus, zero_bytes, multiple_bytes}

-- 1 if two bytes differ
abbrev differs : Bool → ℕ
differs b = cond b 0 1

one : (b : Bool) → differs b ≤ 1
one true = omega arith
one false = omega arith

length-zeros : (n : ℕ) → length {A = ℕ} (replicate n 0) ≡ n
length-zeros zero = refl
length-zeros (suc n) = ap suc (length-zeros n)

-- a polynomial with s before it is the sum of itself and of s followed by zeros
horner_from : (x s : ℕ) (p : List ℕ) → x < 256 → s < 256 → AreBytes p → horner x s p ≡ bit_xor (horner x s (replicate (length p) 0)) (horner x 0 p)
horner_from x s p l m h =
    ap₂ (λ t q. horner x t q) (sym (xor_zero_r s)) (sym (zeros_plus (length p) p (omega arith)))
    ∙ horner_plus x s 0 (replicate (length p) 0) p l m (lit< tt) (zero_bytes (length p)) h (length-zeros (length p))

-- the generator's multiple is 0
multiple_zero : (i a : ℕ) → i < 16 → a < 256 → horner (power i) a (map (mul a) generator_tail) ≡ 0
multiple_zero i a l m =
    let x = power i in
    ap (λ z. horner x z (map (mul a) generator_tail)) (sym (xor_zero_r a ∙ refl))
    ∙ ap₂ (λ y z. horner x (bit_xor y z) (map (mul a) generator_tail)) (sym (one_right a m)) (sym (ap (mul x) (mul_zero_right a) ∙ mul_zero_right x))
    ∙ horner_map x a 0 generator (power_small i) m (lit< tt) generator_bytes
    ∙ ap (mul a) (generator_zero i l) ∙ mul_zero_right a

-- a division step keeps the values at the generator's roots, for sixteen coefficients
step_sixteen : (i a : ℕ) (p : List ℕ) → i < 16 → a < 256 → AreBytes p → length p ≡ 16 → horner (power i) 0 (plus (map (mul a) generator_tail) p) ≡ horner (power i) a p
step_sixteen i a p l m h n =
    let x = power i in
    let u = power_small i in
    let g = map (mul a) generator_tail in
    let gb : AreBytes g = multiple_bytes a m in
    let size : length g ≡ 16 = length-map generator_tail (mul a) in
    let zeros = horner x a (replicate 16 0) in
    let whole : bit_xor zeros (horner x 0 g) ≡ 0 = ap (λ z. bit_xor (horner x a (replicate z 0)) (horner x 0 g)) (sym size) ∙ sym (horner_from x a g u m gb) ∙ multiple_zero i a l m in
    ap (λ z. horner x z (plus g p)) (sym (xor_zero_r 0))
    ∙ horner_plus x 0 0 g p u (lit< tt) (lit< tt) gb h (size ∙ sym n)
    ∙ ap (λ z. bit_xor z (horner x 0 p)) (sym (xor_equal zeros (horner x 0 g) whole))
    ∙ ap (λ z. bit_xor (horner x a (replicate z 0)) (horner x 0 p)) (sym n)
    ∙ sym (horner_from x a p u m h)

step_value : (i a : ℕ) (p : List ℕ) → i < 16 → a < 256 → AreBytes p → 16 ≤ length p → horner (power i) 0 (plus (map (mul a) generator_tail) p) ≡ horner (power i) a p
step_value i a p l m h n =
    let x = power i in
    let g = map (mul a) generator_tail in
    let p1 = take 16 p in
    let p2 = drop 16 p in
    let front : length p1 ≡ 16 = length-take-le 16 p n in
    let parts : p1 ++ p2 ≡ p = take-append-drop 16 p in
    ap (λ z. horner x 0 (plus g z)) (sym parts)
    ∙ ap (horner x 0) (plus_ahead g p1 p2 (length-map generator_tail (mul a) ∙ sym front))
    ∙ horner_append x 0 (plus g p1) p2
    ∙ ap (λ z. horner x z p2) (step_sixteen i a p1 l m (take_bytes 16 p h) front)
    ∙ sym (horner_append x a p1 p2)
    ∙ ap (horner x a) parts

length-longer : (p q : List ℕ) → length p ≤ length q → length (plus p q) ≡ length q
length-longer [] q l = refl
length-longer (a ∷ p) [] l = absurd (omega arith)
length-longer (a ∷ p) (b ∷ q) l = ap suc (length-longer p q (omega arith))

pub rest_value : (i n : ℕ) (p : List ℕ) → i < 16 → AreBytes p → n + 16 ≤ length p → horner (power i) 0 (rest_of n p) ≡ horner (power i) 0 p
unfolding rest_of
rest_value i zero p l h m = refl
rest_value i (suc n) [] l h m = absurd (omega arith)
rest_value i (suc n) (a ∷ p) l h m =
    let g = map (mul a) generator_tail in
    rest_value i n (plus g p) l (plus_bytes g p (multiple_bytes a h.0) h.1) (omega (arith, length-longer g p (omega (arith, length-map generator_tail (mul a)))))
    ∙ step_value i a p l h.0 h.1 (omega arith)
    ∙ ap (λ z. horner (power i) z p) (sym (ap (bit_xor a) (mul_zero_right (power i)) ∙ xor_zero_r a))

pub rest_bytes : (n : ℕ) (p : List ℕ) → AreBytes p → AreBytes (rest_of n p)
unfolding rest_of
rest_bytes zero p h = h
rest_bytes (suc n) [] h = tt
rest_bytes (suc n) (a ∷ p) h = let g = map (mul a) generator_tail in rest_bytes n (plus g p) (plus_bytes g p (multiple_bytes a h.0) h.1)

pub length-rest : (n : ℕ) (p : List ℕ) → n + 16 ≤ length p → length (rest_of n p) + n ≡ length p
unfolding rest_of
length-rest zero p m = omega arith
length-rest (suc n) [] m = absurd (omega arith)
length-rest (suc n) (a ∷ p) m =
    let g = map (mul a) generator_tail in
    let size : length (plus g p) ≡ length p = length-longer g p (omega (arith, length-map generator_tail (mul a))) in
    omega (arith, length-rest n (plus g p) (omega (arith, size)), size)

-- the value of a word from its remainder
pub value_by_rest : (word : List ℕ) (i : ℕ) → length word ≡ 204 → AreBytes word → i < 16 → value_at (power i) (reverse word) ≡ value_at (power i) (reverse (rest_of 188 word))
value_by_rest word i l h m = horner_value (power i) [] word ∙ sym (rest_value i 188 word m h (omega arith)) ∙ sym (horner_value (power i) [] (rest_of 188 word))

zero_value : (x : ℕ) (p : List ℕ) → AreZero p → horner x 0 p ≡ 0
zero_value x [] z = refl
zero_value x (b ∷ p) z = ap (λ y. horner x y p) (ap₂ bit_xor z.0 (mul_zero_right x)) ∙ zero_value x p z.1

-- the remainder is 0 exactly for codewords
pub code_from_rest : (word : List ℕ) → length word ≡ 204 → AreBytes word → AreZero (rest_of 188 word) → IsCodeword word
code_from_rest word l h z =
    codeword_from_roots word l h (λ i m. value_by_rest word i l h m ∙ horner_value (power i) [] (rest_of 188 word) ∙ zero_value (power i) (rest_of 188 word) z)

zero_reverse : (p q : List ℕ) → AreZero p → AreZero q → AreZero (reverse_aux p q)
zero_reverse [] q z y = y
zero_reverse (a ∷ p) q z y = zero_reverse p (a ∷ q) z.1 (z.0, y)

pub rest_of_code : (word : List ℕ) → IsCodeword word → AreZero (rest_of 188 word)
rest_of_code word c =
    let r = rest_of 188 word in
    let b : AreBytes r = rest_bytes 188 word c.bytes in
    let l : length r ≡ 16 = omega (arith, length-rest 188 word (omega (arith, c.long)), c.long) in
    subst AreZero (reverse-reverse r) (zero_reverse (reverse r) [] (too_many (first_powers 16) (reverse r) (first_bytes 16) (reverse_bytes r [] b tt) (first_all_differ 16 (lit≤ tt)) (omega (arith, length-first 16, length-reverse r, l))
    (first_roots 16 (reverse r) (λ i m. sym (value_by_rest word i c.long c.bytes m) ∙ codeword_root word i c m))) tt)

zero_number_back : (p : List ℕ) → number p ≡ 0 → AreZero p
unfolding number
zero_number_back [] e = tt
zero_number_back (b ∷ p) e = (omega arith, zero_number_back p (omega arith))

number_of_zero : (p : List ℕ) → AreZero p → number p ≡ 0
unfolding number
number_of_zero [] z = refl
number_of_zero (b ∷ p) z = omega (arith, z.0, number_of_zero p z.1)

pub zero_is_code : (word : List ℕ) (register : ℕ) → length word ≡ 204 → AreBytes word → Holds register (rest_of 188 word) → register ≡ 0 → IsCodeword word
zero_is_code word register l b h e = code_from_rest word l b (zero_number_back (rest_of 188 word) (sym h.is ∙ e))

pub code_is_zero : (word : List ℕ) (register : ℕ) → IsCodeword word → Holds register (rest_of 188 word) → register ≡ 0
code_is_zero word register c h = h.is ∙ number_of_zero (rest_of 188 word) (rest_of_code word c)

-- ---- the codeword of a message

pub message_code : (m : List ℕ) → length m ≡ 188 → AreBytes m → IsCodewordOf m (codeword m)
unfolding codeword
message_code m l h =
    let p = m ++ replicate 16 0 in
    let pl : length p ≡ 204 = length-append m (replicate 16 0) ∙ (omega (arith, length-zeros 16)) in
    let pb : AreBytes p = append_bytes m (replicate 16 0) h (zero_bytes 16) in
    let r = rest_of 188 p in
    let rl : length r ≡ 16 = omega (arith, length-rest 188 p (omega (arith, pl)), pl) in
    let rb : AreBytes r = rest_bytes 188 p pb in
    record {
      code = codeword_from_roots (m ++ r) (length-append m r ∙ (omega arith)) (append_bytes m r h rb) (λ i k. roots i k r rl rb (rest_value i 188 p k pb (omega (arith, pl))));
      begins = ap (λ n. take n (m ++ r)) (sym l) ∙ take-append_seam m r;
    }
  where
    roots : (i : ℕ) → i < 16 → (r : List ℕ) → length r ≡ 16 → AreBytes r → horner (power i) 0 r ≡ horner (power i) 0 (m ++ replicate 16 0) → value_at (power i) (reverse (m ++ r)) ≡ 0
    roots i k r rl rb e =
        let x = power i in
        let v = horner x 0 m in
        let vs : v < 256 = horner_small x 0 m (power_small i) (lit< tt) h in
        horner_value x [] (m ++ r) ∙ horner_append x 0 m r ∙ horner_from x v r (power_small i) vs rb
        ∙ ap₂ bit_xor (ap (λ n. horner x v (replicate n 0)) rl) (e ∙ horner_append x 0 m (replicate 16 0)) ∙ xor_self (horner x v (replicate 16 0))

same_front : (p q r : List ℕ) → distance (p ++ q) (p ++ r) ≡ distance q r
same_front [] q r = refl
same_front (a ∷ p) q r = omega (arith, ap differs (eq-eqb a a refl), same_front p q r)

distance_short : (v w : List ℕ) → distance v w ≤ length v
distance_short [] w = omega arith
distance_short (a ∷ v) [] = omega arith
distance_short (a ∷ v) (b ∷ w) = go (eqb a b) (distance_short v w)
  where
    go : (t : Bool) → distance v w ≤ length v → differs t + distance v w ≤ suc (length v)
    go true l = omega arith
    go false l = omega arith

pub message_one : (m w : List ℕ) → IsCodewordOf m w → w ≡ codeword m
message_one m w h =
    let l : length m ≡ 188 = sym (ap length h.begins) ∙ length-take-le 188 w (omega (arith, h.code.long)) in
    let b : AreBytes m = subst AreBytes h.begins (take_bytes 188 w h.code.bytes) in
    let k = message_code m l b in
    let c = codeword m in
    let v1 : m ++ drop 188 w ≡ w = ap (λ z. z ++ drop 188 w) (sym h.begins) ∙ take-append-drop 188 w in
    let v2 : m ++ drop 188 c ≡ c = ap (λ z. z ++ drop 188 c) (sym k.begins) ∙ take-append-drop 188 c in
    codewords_apart w c h.code k.code
    (omega (arith, ap₂ distance v1 v2, same_front m (drop 188 w) (drop 188 c), distance_short (drop 188 w) (drop 188 c), length-drop 188 w, h.code.long))

-- ---- the laws

pub apart : (v w : List ℕ) → IsCodeword v → IsCodeword w → v ≢ w → 17 ≤ distance v w
apart v w h k n = go (cases_lt 16 (distance v w))
  where
    go : (16 < distance v w) ⊎ (distance v w ≤ 16) → 17 ≤ distance v w
    go (inl l) = l
    go (inr l) = absurd (n (codewords_apart v w h k l))

pub between : (u v w : List ℕ) → length u ≡ length v → length u ≡ length w → distance v w ≤ distance u v + distance u w
between [] [] w l m = omega arith
between [] (b ∷ v) w l m = absurd (omega arith)
between (a ∷ u) [] w l m = absurd (omega arith)
between (a ∷ u) (b ∷ v) [] l m = absurd (omega arith)
between (a ∷ u) (b ∷ v) (c ∷ w) l m = go (eqb a b) refl (eqb a c) refl (between u v w (omega arith) (omega arith))
  where
    go : (s : Bool) → eqb a b ≡ s → (t : Bool) → eqb a c ≡ t → distance v w ≤ distance u v + distance u w → differs (eqb b c) + distance v w ≤ differs s + distance u v + (differs t + distance u w)
    go true e true f i = omega (arith, i, ap differs (eq-eqb b c (sym (eqb-true a b e) ∙ eqb-true a c f)))
    go true e false f i = omega (arith, i, one (eqb b c))
    go false e t f i = omega (arith, i, one (eqb b c))

pub one_near : (u v w : List ℕ) → length u ≡ 204 → IsCodeword v → IsCodeword w → distance u v ≤ 8 → distance u w ≤ 8 → v ≡ w
one_near u v w l h k d e = codewords_apart v w h k (omega (arith, between u v w (l ∙ sym h.long) (l ∙ sym k.long)))
