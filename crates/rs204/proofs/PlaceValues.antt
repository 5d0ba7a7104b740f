-- Values of polynomials at many positions, as sums of their terms' values.
use Rattle.std.proofs.Common.{◌≡◌, ℕ, zero, suc, ◌+◌, ◌-◌, ◌*◌, ◌/◌, ◌%◌, ◌^◌, ◌<◌, ◌≤◌, ◌⊎◌, inl, inr, List, [], ◌∷◌, ◌++◌, length, get_or, take, refl, sym, ap, ap₂, ◌∙◌, subst, arith, eqb, length-take}
use Rattle.std.specs.Prelude.{bit_xor}
use Rattle.std.proofs.lemmas.Bool.{eqb-true, cases_lt}
use Rattle.std.proofs.lemmas.Nat.{xor_block}
use Rattle.std.proofs.lemmas.List.{take_more, get_or-take}
use Rattle.std.specs.Int.{bytes_low_first}
use lib.Bits.{xor_assoc, xor_zero_l, xor_zero_r}
use Rattle.gf256.specs.Field.{mul, power, carryless, reduced}
use Rattle.gf256.proofs.FieldLaws.{mul_xor_left, mul_xor_right, mul_zero_right, mul_small, mul_comm, mul_assoc, one_left, one_right, power_small, power_add, power_zero}
use Rattle.rs204.specs.Codes.{plus, AreBytes}
use Rattle.rs204.specs.Division.{number, Holds}
use Rattle.rs204.specs.Polynomials.{value_at}
use Rattle.rs204.specs.Values.{term_values}
use Rattle.rs204.specs.declared.terms.TheConstants.{LOW, HIGH}
use Rattle.rs204.proofs.Below.{all_below_at}
use Rattle.rs204.proofs.Polynomials.{value_small, plus_bytes}
use Rattle.rs204.proofs.Distance.{length-plus}
use Rattle.rs204.proofs.Dividing.{number_plus, held_bytes}
use Rattle.rs204.proofs.Near.{bytes_of, take_bytes}

-- ---- the tables

-- c, c * x, c * x^2 and so on
abbrev chain : ℕ → ℕ → ℕ → List ℕ
chain zero c x = []
chain (suc n) c x = c ∷ chain n (mul c x) x

low_is : (k : ℕ) → k < 272 → get_or LOW k 0 ≡ number (chain 16 (k % 16) (power (k / 16)))
unfolding number mul carryless reduced power
low_is k l = eqb-true _ _ (all_below_at (λ k. eqb (get_or LOW k 0) (number (chain 16 (k % 16) (power (k / 16))))) 272 k refl l)

high_is : (k : ℕ) → k < 272 → get_or HIGH k 0 ≡ number (chain 16 (k % 16 * 16) (power (k / 16)))
unfolding number mul carryless reduced power
high_is k l = eqb-true _ _ (all_below_at (λ k. eqb (get_or HIGH k 0) (number (chain 16 (k % 16 * 16) (power (k / 16))))) 272 k refl l)

length-chain : (n c x : ℕ) → length (chain n c x) ≡ n
length-chain zero c x = refl
length-chain (suc n) c x = ap suc (length-chain n (mul c x) x)

chain_bytes : (n c x : ℕ) → c < 256 → x < 256 → AreBytes (chain n c x)
chain_bytes zero c x l m = tt
chain_bytes (suc n) c x l m = (l, chain_bytes n (mul c x) x (mul_small c x l m) m)

chain_xor : (n a b x : ℕ) → chain n (bit_xor a b) x ≡ plus (chain n a x) (chain n b x)
chain_xor zero a b x = refl
chain_xor (suc n) a b x = ap (λ z. bit_xor a b ∷ chain n z x) (mul_xor_left a b x) ∙ ap (λ z. bit_xor a b ∷ z) (chain_xor n (mul a x) (mul b x) x)

next_power : (c i j : ℕ) → c < 256 → mul (mul c (power (i * j))) (power j) ≡ mul c (power (suc i * j))
next_power c i j l =
    let e : i * j + j ≡ suc i * j = omega arith in
    mul_assoc c (power (i * j)) (power j) l (power_small (i * j)) (power_small j) ∙ ap (mul c) (sym (power_add (i * j) j) ∙ ap power e)

chain_is : (n c j i : ℕ) → c < 256 → chain n (mul c (power (i * j))) (power j) ≡ term_values c j i n
chain_is zero c j i l = refl
chain_is (suc n) c j i l = ap (λ z. mul c (power (i * j)) ∷ z) (ap (λ z. chain n z (power j)) (next_power c i j l) ∙ chain_is n c j (suc i) l)

length-term : (c j i n : ℕ) → length (term_values c j i n) ≡ n
length-term c j i zero = refl
length-term c j i (suc n) = ap suc (length-term c j (suc i) n)

term_bytes : (c j i n : ℕ) → c < 256 → AreBytes (term_values c j i n)
term_bytes c j i zero l = tt
term_bytes c j i (suc n) l = (mul_small c (power (i * j)) l (power_small (i * j)), term_bytes c j (suc i) n l)

parts : (c : ℕ) → bit_xor (c % 16) (c / 16 * 16) ≡ c
parts c = ap₂ bit_xor low_part high_part ∙ xor_block 4 0 (c / 16) (c % 16) 0 (omega arith) (omega arith) ∙ ap₂ (λ x y. x * 2 ^ 4 + y) (xor_zero_l (c / 16)) (xor_zero_r (c % 16)) ∙ whole
  where
    low_part : c % 16 ≡ 0 * 2 ^ 4 + c % 16
    low_part = omega arith

    high_part : c / 16 * 16 ≡ c / 16 * 2 ^ 4 + 0
    high_part = omega arith

    whole : c / 16 * 2 ^ 4 + c % 16 ≡ c
    whole = omega arith

at_first : (c j : ℕ) → c < 256 → c ≡ mul c (power (0 * j))
at_first c j l = let e : 0 * j ≡ 0 = omega arith in sym (ap (λ z. mul c (power z)) e ∙ ap (mul c) power_zero ∙ one_right c l)

pub term_held : (c j l h result : ℕ) → c < 256 → j < 17 → l ≡ get_or LOW (16 * j + c % 16) 0 → h ≡ get_or HIGH (16 * j + c / 16) 0 → result ≡ bit_xor l h → Holds result (term_values c j 0 16)
term_held c j l h result lc lj e f r =
    let x = power j in
    let a = c % 16 in
    let b = c / 16 * 16 in
    let m1 : (16 * j + c % 16) % 16 ≡ c % 16 = omega arith in
    let d1 : (16 * j + c % 16) / 16 ≡ j = omega arith in
    let m2 : (16 * j + c / 16) % 16 ≡ c / 16 = omega arith in
    let d2 : (16 * j + c / 16) / 16 ≡ j = omega arith in
    let lower : l ≡ number (chain 16 a x) = e ∙ low_is (16 * j + c % 16) (omega arith) ∙ ap₂ (λ m n. number (chain 16 m (power n))) m1 d1 in
    let upper : h ≡ number (chain 16 b x) = f ∙ high_is (16 * j + c / 16) (omega arith) ∙ ap₂ (λ m n. number (chain 16 (m * 16) (power n))) m2 d2 in
    record {
      long = length-term c j 0 16;
      bytes_are = term_bytes c j 0 16 lc;
      is = r ∙ ap₂ bit_xor lower upper
          ∙ sym (number_plus (chain 16 a x) (chain 16 b x) (length-chain 16 a x ∙ sym (length-chain 16 b x)) (chain_bytes 16 a x (omega arith) (power_small j)) (chain_bytes 16 b x (omega arith) (power_small j)))
          ∙ ap number (sym (chain_xor 16 a b x) ∙ ap (λ z. chain 16 z x) (parts c ∙ at_first c j lc) ∙ chain_is 16 c j 0 lc);
    }

-- ---- sums of terms

-- the values of a polynomial at n powers of λ, from the power i on
abbrev pub values_from : List ℕ → ℕ → ℕ → List ℕ
values_from p i zero = []
values_from p i (suc n) = value_at (power i) p ∷ values_from p (suc i) n

length-values : (p : List ℕ) (i n : ℕ) → length (values_from p i n) ≡ n
length-values p i zero = refl
length-values p i (suc n) = ap suc (length-values p (suc i) n)

values_at : (p : List ℕ) (i n k : ℕ) → k < n → get_or (values_from p i n) k 0 ≡ value_at (power (i + k)) p
values_at p i zero k l = absurd (omega arith)
values_at p i (suc n) zero l = let e : i ≡ i + 0 = omega arith in ap (λ z. value_at (power z) p) e
values_at p i (suc n) (suc k) l = let e : suc i + k ≡ i + suc k = omega arith in values_at p (suc i) n k (omega arith) ∙ ap (λ z. value_at (power z) p) e

value_push : (i c : ℕ) (p : List ℕ) → c < 256 → AreBytes p → value_at (power i) (p ++ c ∷ []) ≡ bit_xor (value_at (power i) p) (mul c (power (i * length p)))
value_push i c [] l s =
    let e : i * 0 ≡ 0 = omega arith in
    ap (bit_xor c) (mul_zero_right (power i)) ∙ xor_zero_r c ∙ sym (xor_zero_l (mul c (power (i * 0))) ∙ ap (λ z. mul c (power z)) e ∙ ap (mul c) power_zero ∙ one_right c l)
value_push i c (a ∷ p) l s =
    let x = power i in
    let v = value_at x p in
    let q = power (i * length p) in
    let sx = power_small i in
    let sq = power_small (i * length p) in
    let e : i + i * length p ≡ i * suc (length p) = omega arith in
    let turned : mul x (mul c q) ≡ mul c (power (i * suc (length p))) =
    sym (mul_assoc x c q sx l sq) ∙ ap (λ z. mul z q) (mul_comm x c sx l) ∙ mul_assoc c x q l sx sq ∙ ap (mul c) (sym (power_add i (i * length p)) ∙ ap power e) in
    ap (λ z. bit_xor a (mul x z)) (value_push i c p l s.1)
    ∙ ap (bit_xor a) (mul_xor_right x v (mul c q) sx (value_small x p sx s.1) (mul_small c q l sq))
    ∙ sym (xor_assoc a (mul x v) (mul x (mul c q)))
    ∙ ap (bit_xor (bit_xor a (mul x v))) turned

values_push : (p : List ℕ) (c i n : ℕ) → c < 256 → AreBytes p → plus (values_from p i n) (term_values c (length p) i n) ≡ values_from (p ++ c ∷ []) i n
values_push p c i zero l s = refl
values_push p c i (suc n) l s = ap₂ (λ x y. x ∷ y) (sym (value_push i c p l s)) (values_push p c (suc i) n l s)

held_plus : (a b : ℕ) (p q : List ℕ) → Holds a p → Holds b q → Holds (bit_xor a b) (plus p q)
held_plus a b p q h k =
    let size : length p ≡ length q = h.long ∙ sym k.long in
    record {
      long = length-plus p q size ∙ h.long;
      bytes_are = plus_bytes p q h.bytes_are k.bytes_are;
      is = ap₂ bit_xor h.is k.is ∙ sym (number_plus p q size h.bytes_are k.bytes_are);
    }

pub summed_none : (terms : List ℕ) → Holds 0 (values_from (take 0 terms) 0 16)
unfolding number
summed_none terms = record {
  long = refl;
  bytes_are = (omega arith, (omega arith, (omega arith, (omega arith, (omega arith, (omega arith, (omega arith, (omega arith, (omega arith, (omega arith, (omega arith, (omega arith, (omega arith, (omega arith, (omega arith, (omega arith, tt))))))))))))))));
  is = refl;
}

pub summed_more : (sum term result j : ℕ) (terms : List ℕ) → j < length terms → ((k : ℕ) → get_or terms k 0 < 256) → Holds sum (values_from (take j terms) 0 16) → Holds term (term_values (get_or terms j 0) j 0 16) → result ≡ bit_xor sum term
    → Holds result (values_from (take (j + 1) terms) 0 16)
summed_more sum term result j terms l s h t r =
    let p = take j terms in
    let c = get_or terms j 0 in
    let n : length p ≡ j = length-take j terms ∙ omega (arith, l) in
    let is : plus (values_from p 0 16) (term_values c j 0 16) ≡ values_from (take (j + 1) terms) 0 16 =
    ap (λ z. plus (values_from p 0 16) (term_values c z 0 16)) (sym n) ∙ values_push p c 0 16 (s j) (take_bytes j terms (bytes_of terms s)) ∙ ap (λ z. values_from z 0 16) (sym (take_more terms j 0 l)) in
    subst (λ z. Holds z (values_from (take (j + 1) terms) 0 16)) (sym r) (subst (Holds (bit_xor sum term)) is (held_plus sum term (values_from p 0 16) (term_values c j 0 16) h t))

pub summed_all : (sum : ℕ) (p bytes : List ℕ) → Holds sum (values_from p 0 16) → bytes ≡ bytes_low_first 0 16 sum → (i : ℕ) → i < 16 → get_or bytes i 0 ≡ value_at (power i) p
summed_all sum p bytes h e i l = let z : 0 + i ≡ i = omega arith in ap (λ (b : List ℕ). get_or b i 0) (e ∙ held_bytes sum (values_from p 0 16) h) ∙ values_at p 0 16 i l ∙ ap (λ n. value_at (power n) p) z

-- ---- from twelve positions to the next twelve

scaled_value : (m i s : ℕ) (p t : List ℕ) → length t ≡ length p → ((k : ℕ) → get_or p k 0 < 256)
    → ((k : ℕ) → k < length p → get_or t k 0 ≡ mul (mul (get_or p k 0) (power s)) (power (m * k))) → value_at (power i) t ≡ mul (power s) (value_at (power (m + i)) p)
scaled_value m i s [] [] l b h = sym (mul_zero_right (power s))
scaled_value m i s [] (c ∷ t) l b h = absurd (omega arith)
scaled_value m i s (a ∷ p) [] l b h = absurd (omega arith)
scaled_value m i s (a ∷ p) (c ∷ t) l b h =
    let x = power i in
    let y = power (m + i) in
    let q = power s in
    let sx = power_small i in
    let sy = power_small (m + i) in
    let sq = power_small s in
    let v = value_at y p in
    let sv = value_small y p sy (bytes_of p (λ k. b (suc k))) in
    let none : m * 0 ≡ 0 = omega arith in
    let e : i + (s + m) ≡ s + (m + i) = omega arith in
    let first : c ≡ mul q a = h 0 (omega arith) ∙ ap (λ z. mul (mul a q) (power z)) none ∙ ap (mul (mul a q)) power_zero ∙ one_right (mul a q) (mul_small a q (b 0) sq) ∙ mul_comm a q (b 0) sq in
    let rest : value_at x t ≡ mul (power (s + m)) v = scaled_value m i (s + m) p t (omega arith) (λ k. b (suc k)) (λ k w. h (suc k) (omega arith) ∙ moved_on k) in
    let turned : mul x (mul (power (s + m)) v) ≡ mul q (mul y v) =
    sym (mul_assoc x (power (s + m)) v sx (power_small (s + m)) sv) ∙ ap (λ z. mul z v) (sym (power_add i (s + m)) ∙ ap power e ∙ power_add s (m + i)) ∙ mul_assoc q y v sq sy sv in
    ap₂ (λ u w. bit_xor u (mul x w)) first rest ∙ ap (bit_xor (mul q a)) turned ∙ sym (mul_xor_right q a (mul y v) sq (b 0) (mul_small y v sy sv))
  where
    moved_on : (k : ℕ) → mul (mul (get_or p k 0) (power s)) (power (m * suc k)) ≡ mul (mul (get_or p k 0) (power (s + m))) (power (m * k))
    moved_on k =
        let d = get_or p k 0 in
        let sd = b (suc k) in
        let f : m * suc k ≡ m + m * k = omega arith in
        ap (mul (mul d (power s))) (ap power f ∙ power_add m (m * k))
        ∙ sym (mul_assoc (mul d (power s)) (power m) (power (m * k)) (mul_small d (power s) sd (power_small s)) (power_small m) (power_small (m * k)))
        ∙ ap (λ z. mul z (power (m * k))) (mul_assoc d (power s) (power m) sd (power_small s) (power_small m) ∙ ap (mul d) (sym (power_add s m)))

-- the terms before the first positions
pub terms_first : (p terms : List ℕ) (count : ℕ) → ((k : ℕ) → get_or p k 0 < 256) → ((k : ℕ) → k < count → get_or terms k 0 ≡ get_or p k 0) → (k : ℕ) → k < count → get_or terms k 0 ≡ mul (get_or p k 0) (power (12 * 0 * k))
terms_first p terms count b h k l =
    let e : 12 * 0 * k ≡ 0 = omega arith in
    h k l ∙ sym (ap (λ z. mul (get_or p k 0) (power z)) e ∙ ap (mul (get_or p k 0)) power_zero ∙ one_right (get_or p k 0) (b k))

pub terms_next : (block count : ℕ) (p terms terms2 : List ℕ) → ((k : ℕ) → get_or p k 0 < 256)
    → ((k : ℕ) → k < count → get_or terms k 0 ≡ mul (get_or p k 0) (power (12 * block * k)))
    → ((k : ℕ) → k < count → get_or terms2 k 0 ≡ mul (get_or terms k 0) (power (12 * k)))
    → (k : ℕ) → k < count → get_or terms2 k 0 ≡ mul (get_or p k 0) (power (12 * (block + 1) * k))
terms_next block count p terms terms2 b h g k l =
    let d = get_or p k 0 in
    let e : 12 * block * k + 12 * k ≡ 12 * (block + 1) * k = omega arith in
    g k l ∙ ap (λ z. mul z (power (12 * k))) (h k l)
    ∙ mul_assoc d (power (12 * block * k)) (power (12 * k)) (b k) (power_small (12 * block * k)) (power_small (12 * k))
    ∙ ap (mul d) (sym (power_add (12 * block * k) (12 * k)) ∙ ap power e)

pub places_next : (block count : ℕ) (p terms values values2 twelve : List ℕ) → length p ≡ count → count ≤ length terms → ((k : ℕ) → get_or p k 0 < 256)
    → ((k : ℕ) → k < count → get_or terms k 0 ≡ mul (get_or p k 0) (power (12 * block * k)))
    → ((k : ℕ) → k < 12 * block → get_or values k 0 ≡ value_at (power k) p)
    → ((i : ℕ) → i < 16 → get_or twelve i 0 ≡ value_at (power i) (take count terms))
    → ((k : ℕ) → k < 12 * block → get_or values2 k 0 ≡ get_or values k 0)
    → ((i : ℕ) → i < 12 → get_or values2 (12 * block + i) 0 ≡ get_or twelve i 0)
    → (k : ℕ) → k < 12 * (block + 1) → get_or values2 k 0 ≡ value_at (power k) p
places_next block count p terms values values2 twelve n m b h done next before put k l = go (cases_lt k (12 * block))
  where
    t : List ℕ
    t = take count terms

    long : length t ≡ length p
    long = length-take count terms ∙ omega (arith, m, n)

    scaled : (j : ℕ) → j < length p → get_or t j 0 ≡ mul (mul (get_or p j 0) (power 0)) (power (12 * block * j))
    scaled j w =
        let lj : j < count = omega (arith, w, n) in
        get_or-take count terms j 0 lj ∙ h j lj
        ∙ ap (λ z. mul z (power (12 * block * j))) (sym (ap (mul (get_or p j 0)) power_zero ∙ one_right (get_or p j 0) (b j)))

    there : (i : ℕ) → value_at (power i) t ≡ value_at (power (12 * block + i)) p
    there i =
        scaled_value (12 * block) i 0 p t long b scaled
        ∙ ap (λ z. mul z (value_at (power (12 * block + i)) p)) power_zero
        ∙ one_left (value_at (power (12 * block + i)) p) (value_small (power (12 * block + i)) p (power_small (12 * block + i)) (bytes_of p b))

    at : (i : ℕ) → i < 12 → k ≡ 12 * block + i → get_or values2 k 0 ≡ value_at (power k) p
    at i w e =
        ap (λ z. get_or values2 z 0) e ∙ put i w ∙ next i (omega arith) ∙ there i ∙ ap (λ z. value_at (power z) p) (sym e)

    go : (k < 12 * block) ⊎ (12 * block ≤ k) → get_or values2 k 0 ≡ value_at (power k) p
    go (inl w) = before k w ∙ done k w
    go (inr w) = at (k - 12 * block) (omega arith) (omega arith)
