-- A polynomial times x + root, for each of several roots.
use Rattle.std.proofs.Common.{◌≡◌, ◌≢◌, ℕ, zero, suc, ◌+◌, ◌<◌, ◌≤◌, ◌⊎◌, inl, inr, List, [], ◌∷◌, ◌++◌, length, get_or, map, refl, sym, ap, ap₂, ◌∙◌, subst, arith, ext_get_or, length-append, take, set, get_or-set_same, get_or-set_other}
use Rattle.std.specs.Prelude.{bit_xor}
use Rattle.std.proofs.lemmas.Bool.{cases_eq, cases_lt}
use Rattle.std.proofs.lemmas.List.{length-map, get_or_past, take_more, take_all}
use lib.Bits.{xor_comm}
use Rattle.gf256.specs.Field.{mul}
use Rattle.gf256.proofs.FieldLaws.{mul_comm, mul_zero_right, xor_small, xor_equal}
use Rattle.rs204.specs.Codes.{plus, with_root}
use Rattle.rs204.specs.Polynomials.{value_at}
use Rattle.rs204.proofs.Polynomials.{AreZero, value_root, value_small}
use Rattle.rs204.proofs.CodeSteps.{get_or-plus, get_or-multiple}
use Rattle.rs204.proofs.Near.{bytes_of}
use Rattle.rs_erasure.specs.Locating.{times_all, IsProduct}
use Rattle.rs_erasure.proofs.Places.{times_push}

-- coefficient k of x + a times a polynomial
pub root_at : (a : ℕ) (p : List ℕ) (k : ℕ) → get_or (with_root a p) k 0 ≡ bit_xor (mul a (get_or p k 0)) (get_or (0 ∷ p) k 0)
root_at a p k = get_or-plus (map (mul a) p) (0 ∷ p) k ∙ ap (λ z. bit_xor z (get_or (0 ∷ p) k 0)) (get_or-multiple a p k)

length-longer : (p q : List ℕ) → length p + 1 ≡ length q → length (plus p q) ≡ length q
length-longer [] q e = refl
length-longer (a ∷ p) [] e = absurd (omega arith)
length-longer (a ∷ p) (b ∷ q) e = ap suc (length-longer p q (omega arith))

length-root : (a : ℕ) (p : List ℕ) → length (with_root a p) ≡ length p + 1
length-root a p = length-longer (map (mul a) p) (0 ∷ p) (omega (arith, length-map p (mul a))) ∙ (omega arith)

-- one more coefficient is written
pub set_done : (f : ℕ → ℕ) (now : List ℕ) (k value : ℕ) → k < length now → value ≡ f k → ((j : ℕ) → j < k → get_or now j 0 ≡ f j) → (j : ℕ) → j < k + 1 → get_or (set now k value) j 0 ≡ f j
set_done f now k value l e h j m = go (cases_eq j k)
  where
    go : (j ≡ k) ⊎ (j ≡ k → ⊥) → get_or (set now k value) j 0 ≡ f j
    go (inl q) = ap (λ z. get_or (set now k value) z 0) q ∙ get_or-set_same now k value 0 l ∙ e ∙ ap f (sym q)
    go (inr q) = get_or-set_other now k j value 0 q ∙ h j (omega (arith, q))

pub set_left : (old now : List ℕ) (k value : ℕ) → ((j : ℕ) → k ≤ j → get_or now j 0 ≡ get_or old j 0) → (j : ℕ) → k + 1 ≤ j → get_or (set now k value) j 0 ≡ get_or old j 0
set_left old now k value h j m = let q : j ≢ k = omega arith in get_or-set_other now k j value 0 q ∙ h j (omega arith)

pub set_bytes : (now : List ℕ) (k value : ℕ) → k < length now → value < 256 → ((j : ℕ) → get_or now j 0 < 256) → (j : ℕ) → get_or (set now k value) j 0 < 256
set_bytes now k value l m h j = go (cases_eq j k)
  where
    go : (j ≡ k) ⊎ (j ≡ k → ⊥) → get_or (set now k value) j 0 < 256
    go (inl q) = subst (λ z. get_or (set now k value) z 0 < 256) (sym q) (subst (λ z. z < 256) (sym (get_or-set_same now k value 0 l)) m)
    go (inr q) = subst (λ z. z < 256) (sym (get_or-set_other now k j value 0 q)) (h j)

front : (p : List ℕ) (k : ℕ) → k < length p → get_or (p ++ 0 ∷ []) k 0 ≡ get_or p k 0
front [] k n = absurd (omega arith)
front (b ∷ p) zero n = refl
front (b ∷ p) (suc k) n = front p k (omega arith)

-- thirteen coefficients, multiplied in place
pub multiplied : (a : ℕ) (old new : List ℕ) → length old ≡ 13 → length new ≡ 13 → get_or old 12 0 ≡ 0 → ((k : ℕ) → k < 13 → get_or new k 0 ≡ bit_xor (mul a (get_or old k 0)) (get_or (0 ∷ old) k 0)) → with_root a old ≡ new ++ 0 ∷ []
multiplied a old new l m z h =
    ext_get_or 0 (with_root a old) (new ++ 0 ∷ []) (omega (arith, length-root a old, length-append new (0 ∷ []))) (λ k n. root_at a old k ∙ go k (cases_lt k 13) (omega (arith, length-root a old)))
  where
    end : (k : ℕ) → k ≡ 13 → bit_xor (mul a (get_or old k 0)) (get_or (0 ∷ old) k 0) ≡ get_or (new ++ 0 ∷ []) k 0
    end k e =
        ap (λ j. bit_xor (mul a (get_or old j 0)) (get_or (0 ∷ old) j 0)) e
        ∙ ap₂ (λ y w. bit_xor (mul a y) w) (get_or_past old 13 0 (omega (arith, l))) z
        ∙ ap (λ y. bit_xor y 0) (mul_zero_right a)
        ∙ sym (ap (λ j. get_or (new ++ 0 ∷ []) j 0) (e ∙ sym m) ∙ last new)
      where
        last : (p : List ℕ) → get_or (p ++ 0 ∷ []) (length p) 0 ≡ 0
        last [] = refl
        last (b ∷ p) = last p

    go : (k : ℕ) → (k < 13) ⊎ (13 ≤ k) → k < 14 → bit_xor (mul a (get_or old k 0)) (get_or (0 ∷ old) k 0) ≡ get_or (new ++ 0 ∷ []) k 0
    go k (inl n) q = sym (h k n) ∙ sym (front new k (omega (arith, m)))
    go k (inr n) q = end k (omega arith)

-- ---- zeros after a polynomial

value_zero : (x : ℕ) (p : List ℕ) → value_at x (p ++ 0 ∷ []) ≡ value_at x p
value_zero x [] = ap (bit_xor 0) (mul_zero_right x)
value_zero x (a ∷ p) = ap (λ z. bit_xor a (mul x z)) (value_zero x p)

zero_front : (p q : List ℕ) → AreZero (p ++ q) → AreZero p
zero_front [] q z = tt
zero_front (a ∷ p) q z = (z.0, zero_front p q z.1)

zero_more : (p : List ℕ) → AreZero p → AreZero (p ++ 0 ∷ [])
zero_more [] z = (refl, tt)
zero_more (a ∷ p) z = (z.0, zero_more p z.1)

-- x + a times a polynomial is 0 only if the polynomial is
root_zero : (a v : ℕ) (q : List ℕ) → AreZero (plus (map (mul a) q) (v ∷ q)) → (v ≡ 0) × AreZero q
root_zero a v [] z = (z.0, tt)
root_zero a v (b ∷ q) z =
    let r = root_zero a b q z.1 in
    (sym (xor_equal (mul a b) v z.0) ∙ ap (mul a) r.0 ∙ mul_zero_right a, (r.0, r.1))

-- ---- the first k roots

pub record IsPartly (roots locator : List ℕ) (k : ℕ) (product : List ℕ) : Type 0 where
  pub size : length product ≡ 13
  pub bytes : (i : ℕ) → get_or product i 0 < 256
  pub high : (j : ℕ) → 5 + k ≤ j → get_or product j 0 ≡ 0
  pub values : (x : ℕ) → x < 256 → value_at x product ≡ times_all (take k roots) x (value_at x locator)
  pub some : AreZero product → AreZero locator

pub started : (roots locator : List ℕ) → length locator ≡ 9 → ((i : ℕ) → get_or locator i 0 < 256) → ((j : ℕ) → 5 ≤ j → get_or locator j 0 ≡ 0) → IsPartly roots locator 0 (locator ++ 0 ∷ 0 ∷ 0 ∷ 0 ∷ [])
started roots locator l b h = record {
  size = length-append locator (0 ∷ 0 ∷ 0 ∷ 0 ∷ []) ∙ (omega (arith, l));
  bytes = λ i. subst (λ z. z < 256) (sym (behind locator i)) (b i);
  high = λ j n. behind locator j ∙ h j (omega arith);
  values = λ x m. behind_value x locator;
  some = zero_front locator (0 ∷ 0 ∷ 0 ∷ 0 ∷ []);
}
  where
    zeros : (i : ℕ) → get_or {A = ℕ} (0 ∷ 0 ∷ 0 ∷ 0 ∷ []) i 0 ≡ 0
    zeros zero = refl
    zeros (suc zero) = refl
    zeros (suc (suc zero)) = refl
    zeros (suc (suc (suc zero))) = refl
    zeros (suc (suc (suc (suc i)))) = refl

    behind : (p : List ℕ) (i : ℕ) → get_or (p ++ 0 ∷ 0 ∷ 0 ∷ 0 ∷ []) i 0 ≡ get_or p i 0
    behind [] i = zeros i
    behind (a ∷ p) zero = refl
    behind (a ∷ p) (suc i) = behind p i

    behind_value : (x : ℕ) (p : List ℕ) → value_at x (p ++ 0 ∷ 0 ∷ 0 ∷ 0 ∷ []) ≡ value_at x p
    behind_value x [] = value_zero x (0 ∷ 0 ∷ 0 ∷ []) ∙ value_zero x (0 ∷ 0 ∷ []) ∙ value_zero x (0 ∷ []) ∙ value_zero x []
    behind_value x (a ∷ p) = ap (λ z. bit_xor a (mul x z)) (behind_value x p)

pub goes_on : (roots locator : List ℕ) (k : ℕ) (old new : List ℕ) (root : ℕ) → k < length roots → k < 8 → root ≡ get_or roots k 0 → root < 256 → length new ≡ 13 → ((i : ℕ) → get_or new i 0 < 256)
    → with_root root old ≡ new ++ 0 ∷ [] → IsPartly roots locator k old → IsPartly roots locator (k + 1) new
goes_on roots locator k old new root l m e s n b w h = record {
  size = n;
  bytes = b;
  high = λ j o. go j o (cases_lt j 13);
  values = λ x q.
      sym (value_zero x new) ∙ ap (value_at x) (sym w) ∙ value_root x root old q s (bytes_of old h.bytes)
      ∙ mul_comm (bit_xor root x) (value_at x old) (xor_small root x s q) (value_small x old q (bytes_of old h.bytes))
      ∙ ap₂ mul (h.values x q) (xor_comm root x) ∙ sym (times_push (take k roots) root x (value_at x locator))
      ∙ ap (λ z. times_all (take k roots ++ z ∷ []) x (value_at x locator)) e
      ∙ ap (λ z. times_all z x (value_at x locator)) (sym (take_more roots k 0 l));
  some = λ z. h.some (root_zero root 0 old (subst AreZero (sym w) (zero_more new z))).1;
}
  where
    before : (j : ℕ) → 5 + (k + 1) ≤ j → get_or (0 ∷ old) j 0 ≡ 0
    before zero o = absurd (omega arith)
    before (suc j) o = h.high j (omega arith)

    go : (j : ℕ) → 5 + (k + 1) ≤ j → (j < 13) ⊎ (13 ≤ j) → get_or new j 0 ≡ 0
    go j o (inl p) =
        sym (front new j (omega (arith, n))) ∙ ap (λ z. get_or z j 0) (sym w) ∙ root_at root old j
        ∙ ap₂ (λ y z. bit_xor (mul root y) z) (h.high j (omega arith)) (before j o) ∙ ap (λ z. bit_xor z 0) (mul_zero_right root)
    go j o (inr p) = get_or_past new j 0 (omega (arith, n))

pub finished : (roots locator : List ℕ) (k : ℕ) (product : List ℕ) → length roots ≤ k → IsPartly roots locator k product → IsProduct roots locator product
finished roots locator k product l h = record {
  values = λ x m. h.values x m ∙ ap (λ z. times_all z x (value_at x locator)) (take_all k roots l);
  bytes = bytes_of product h.bytes;
  some = λ n z. n (h.some z);
}
