-- Values of polynomials.
use Rattle.std.proofs.Common.{◌≡◌, ℕ, zero, suc, ◌+◌, ◌<◌, ◌≤◌, ◌⊎◌, inl, inr, List, [], ◌∷◌, map, reverse, length, refl, sym, ap, ap₂, ◌∙◌, subst, arith, lit<}
use Rattle.std.specs.Prelude.{bit_xor}
use Rattle.std.specs.List.{AllByRecursion}
use Rattle.std.proofs.lemmas.Bool.{cases_lt}
use lib.Bits.{xor_comm, xor_assoc, xor_self, xor_zero_r}
use Rattle.gf256.specs.Field.{mul, power}
use Rattle.gf256.proofs.FieldLaws.{mul_comm, mul_assoc, mul_xor_left, mul_small, mul_no_zero, mul_zero_left, mul_zero_right, power_small, xor_four, xor_small, mul_xor_right, xor_equal}
use Rattle.rs204.specs.Decoding.{Differ, AllDiffer}
use Rattle.rs204.specs.Codes.{plus, with_root, with_roots, first_powers, AreBytes, IsCodeword}
use Rattle.rs204.specs.Polynomials.{value_at}

pub value_small : (x : ℕ) (p : List ℕ) → x < 256 → AreBytes p → value_at x p < 256
value_small x [] l s = lit< tt
value_small x (a ∷ p) l s = xor_small a _ s.0 (mul_small x (value_at x p) l (value_small x p l s.1))

pub plus_bytes : (p q : List ℕ) → AreBytes p → AreBytes q → AreBytes (plus p q)
plus_bytes [] q s t = t
plus_bytes (a ∷ p) [] s t = s
plus_bytes (a ∷ p) (b ∷ q) s t = (xor_small a b s.0 t.0, plus_bytes p q s.1 t.1)

pub map_bytes : (a : ℕ) (q : List ℕ) → a < 256 → AreBytes q → AreBytes (map (mul a) q)
map_bytes a [] l s = tt
map_bytes a (b ∷ q) l s = (mul_small a b l s.0, map_bytes a q l s.1)

pub with_root_bytes : (a : ℕ) (q : List ℕ) → a < 256 → AreBytes q → AreBytes (with_root a q)
with_root_bytes a q l s = plus_bytes (map (mul a) q) (0 ∷ q) (map_bytes a q l s) (lit< tt, s)

pub with_roots_bytes : (rs q : List ℕ) → AreBytes rs → AreBytes q → AreBytes (with_roots rs q)
with_roots_bytes [] q s t = t
with_roots_bytes (a ∷ rs) q s t = with_root_bytes a (with_roots rs q) s.0 (with_roots_bytes rs q s.1 t)

pub value_plus : (x : ℕ) (p q : List ℕ) → x < 256 → AreBytes p → AreBytes q → value_at x (plus p q) ≡ bit_xor (value_at x p) (value_at x q)
value_plus x [] q l s t = refl
value_plus x (a ∷ p) [] l s t = sym (xor_zero_r (value_at x (a ∷ p)))
value_plus x (a ∷ p) (b ∷ q) l s t =
    ap (bit_xor (bit_xor a b)) (ap (mul x) (value_plus x p q l s.1 t.1) ∙ mul_xor_right x _ _ l (value_small x p l s.1) (value_small x q l t.1))
    ∙ xor_four a b (mul x (value_at x p)) (mul x (value_at x q))

value_map : (x a : ℕ) (q : List ℕ) → x < 256 → a < 256 → AreBytes q → value_at x (map (mul a) q) ≡ mul a (value_at x q)
value_map x a [] l m s = sym (mul_zero_right a)
value_map x a (b ∷ q) l m s =
    let v = value_small x q l s.1 in
    ap (bit_xor (mul a b)) (ap (mul x) (value_map x a q l m s.1) ∙ sym (mul_assoc x a (value_at x q) l m v) ∙ ap (λ z. mul z (value_at x q)) (mul_comm x a l m) ∙ mul_assoc a x (value_at x q) m l v)
    ∙ sym (mul_xor_right a b (mul x (value_at x q)) m s.0 (mul_small x (value_at x q) l v))

-- the value of x + a times a polynomial
pub value_root : (x a : ℕ) (q : List ℕ) → x < 256 → a < 256 → AreBytes q → value_at x (with_root a q) ≡ mul (bit_xor a x) (value_at x q)
value_root x a q l m s =
    value_plus x (map (mul a) q) (0 ∷ q) l (map_bytes a q m s) (lit< tt, s)
    ∙ ap (λ z. bit_xor z (mul x (value_at x q))) (value_map x a q l m s)
    ∙ sym (mul_xor_left a x (value_at x q))

-- x is one of a list
abbrev pub Among : ℕ → List ℕ → Type 0
Among x [] = ⊥
Among x (a ∷ rs) = (x ≡ a) ⊎ Among x rs

pub value_roots : (x : ℕ) (rs q : List ℕ) → x < 256 → AreBytes rs → AreBytes q → Among x rs → value_at x (with_roots rs q) ≡ 0
value_roots x [] q l s t h = absurd h
value_roots x (a ∷ rs) q l s t (inl e) =
    value_root x a (with_roots rs q) l s.0 (with_roots_bytes rs q s.1 t)
    ∙ ap (λ z. mul (bit_xor z x) (value_at x (with_roots rs q))) (sym e) ∙ ap (λ z. mul z (value_at x (with_roots rs q))) (xor_self x) ∙ mul_zero_left (value_at x (with_roots rs q))
value_roots x (a ∷ rs) q l s t (inr h) =
    value_root x a (with_roots rs q) l s.0 (with_roots_bytes rs q s.1 t)
    ∙ ap (mul (bit_xor a x)) (value_roots x rs q l s.1 t h) ∙ mul_zero_right (bit_xor a x)

pub first_bytes : (n : ℕ) → AreBytes (first_powers n)
first_bytes zero = tt
first_bytes (suc n) = (power_small n, first_bytes n)

pub among_first : (n i : ℕ) → i < n → Among (power i) (first_powers n)
among_first zero i l = absurd (omega arith)
among_first (suc n) i l = go (cases_lt i n) (among_first n i)
  where
    go : (i < n) ⊎ (n ≤ i) → (i < n → Among (power i) (first_powers n)) → Among (power i) (first_powers (suc n))
    go (inl m) f = inr (f m)
    go (inr m) f = let e : i ≡ n = omega arith in inl (ap power e)

-- a codeword is 0 at the first sixteen powers
pub codeword_root : (w : List ℕ) (i : ℕ) → IsCodeword w → i < 16 → value_at (power i) (reverse w) ≡ 0
codeword_root w i h l = ap (value_at (power i)) h.is ∙ value_roots (power i) (first_powers 16) h.factor (power_small i) (first_bytes 16) h.factor_bytes (among_first 16 i l)

-- ---- the other way

-- a polynomial divided by x + a, without the remainder
abbrev pub divide : ℕ → List ℕ → List ℕ
divide a [] = []
divide a (b ∷ []) = []
divide a (b ∷ c ∷ p) = value_at a (c ∷ p) ∷ divide a (c ∷ p)

pub divide_bytes : (a : ℕ) (p : List ℕ) → a < 256 → AreBytes p → AreBytes (divide a p)
divide_bytes a [] l s = tt
divide_bytes a (b ∷ []) l s = tt
divide_bytes a (b ∷ c ∷ p) l s = (value_small a (c ∷ p) l s.1, divide_bytes a (c ∷ p) l s.1)

pub length-divide : (a b : ℕ) (p : List ℕ) → length (divide a (b ∷ p)) ≡ length p
length-divide a b [] = refl
length-divide a b (c ∷ p) = ap suc (length-divide a c p)

plus_head : (v : ℕ) (m q : List ℕ) → plus m (v ∷ q) ≡ plus (v ∷ []) (plus m (0 ∷ q))
plus_head v [] q = ap (λ z. z ∷ q) (sym (xor_zero_r v))
plus_head v (e ∷ m) q = ap (λ z. z ∷ plus m q) (xor_comm e v ∙ ap (bit_xor v) (sym (xor_zero_r e)))

-- a polynomial is its value at a plus x + a times the quotient
divide_is : (a b : ℕ) (p : List ℕ) → plus (value_at a (b ∷ p) ∷ []) (with_root a (divide a (b ∷ p))) ≡ b ∷ p
divide_is a b [] = ap (λ z. z ∷ []) (xor_zero_r _ ∙ ap (bit_xor b) (mul_zero_right a) ∙ xor_zero_r b)
divide_is a b (c ∷ p) =
    let v = value_at a (c ∷ p) in
    ap₂ (λ y z. y ∷ z)
    (ap (bit_xor (bit_xor b (mul a v))) (xor_zero_r (mul a v)) ∙ xor_assoc b (mul a v) (mul a v) ∙ ap (bit_xor b) (xor_self (mul a v)) ∙ xor_zero_r b)
    (plus_head v (map (mul a) (divide a (c ∷ p))) (divide a (c ∷ p)) ∙ divide_is a c p)

with_root_cons : (a : ℕ) (q : List ℕ) → plus (0 ∷ []) (with_root a q) ≡ with_root a q
with_root_cons a [] = refl
with_root_cons a (b ∷ q) = refl

pub divide_root : (a b : ℕ) (p : List ℕ) → value_at a (b ∷ p) ≡ 0 → with_root a (divide a (b ∷ p)) ≡ b ∷ p
divide_root a b p h = sym (with_root_cons a (divide a (b ∷ p))) ∙ ap (λ z. plus (z ∷ []) (with_root a (divide a (b ∷ p)))) (sym h) ∙ divide_is a b p

abbrev pub AreRoots : List ℕ → List ℕ → Type 0
AreRoots [] p = Unit {0}
AreRoots (a ∷ rs) p = (value_at a p ≡ 0) × AreRoots rs p

-- roots of x + a times q other than a are roots of q
roots_left : (a : ℕ) (rs p q : List ℕ) → a < 256 → AreBytes rs → AreBytes q → Differ a rs → with_root a q ≡ p → AreRoots rs p → AreRoots rs q
roots_left a [] p q l s t d e r = tt
roots_left a (b ∷ rs) p q l s t d e r =
    (go (mul_no_zero (bit_xor a b) (value_at b q) (xor_small a b l s.0) (value_small b q s.0 t) (sym (value_root b a q s.0 l t) ∙ ap (value_at b) e ∙ r.0)), roots_left a rs p q l s.1 t d.1 e r.1)
  where
    go : (bit_xor a b ≡ 0) ⊎ (value_at b q ≡ 0) → value_at b q ≡ 0
    go (inl h) = absurd (d.0 (sym (xor_equal a b h)))
    go (inr h) = h

-- a polynomial with these roots is a multiple
pub record IsMultiple (rs p : List ℕ) : Type 0 where
  pub factor : List ℕ
  pub bytes : AreBytes factor
  pub long : length factor + length rs ≡ length p
  pub is : p ≡ with_roots rs factor

pub factor_all : (rs p : List ℕ) → AreBytes rs → AreBytes p → AllDiffer rs → length rs ≤ length p → AreRoots rs p → IsMultiple rs p
factor_all [] p s t d l r = record { factor = p; bytes = t; long = omega arith; is = refl }
factor_all (a ∷ rs) [] s t d l r = absurd (omega arith)
factor_all (a ∷ rs) (b ∷ p) s t d l r =
    let q = divide a (b ∷ p) in
    let u = divide_bytes a (b ∷ p) s.0 t in
    let e : with_root a q ≡ b ∷ p = divide_root a b p r.0 in
    let k : length q ≡ length p = length-divide a b p in
    let f = factor_all rs q s.1 u d.1 (omega (arith, k)) (roots_left a rs (b ∷ p) q s.0 s.1 u d.0 e r.1) in
    record { factor = f.factor; bytes = f.bytes; long = omega (arith, f.long, k); is = sym e ∙ ap (with_root a) f.is }

abbrev pub AreZero : List ℕ → Type 0
AreZero = AllByRecursion (λ b. b ≡ 0)

with_root_zero : (a : ℕ) (q : List ℕ) → AreZero q → AreZero (with_root a q)
with_root_zero a q z = go 0 q refl z
  where
    go : (v : ℕ) (q : List ℕ) → v ≡ 0 → AreZero q → AreZero (plus (map (mul a) q) (v ∷ q))
    go v [] e z = (e, tt)
    go v (b ∷ q) e z = (ap₂ bit_xor (ap (mul a) z.0 ∙ mul_zero_right a) e, go b q z.0 z.1)

-- a polynomial with as many roots as coefficients is 0
pub too_many : (rs p : List ℕ) → AreBytes rs → AreBytes p → AllDiffer rs → length rs ≡ length p → AreRoots rs p → AreZero p
too_many rs p s t d l r =
    let f = factor_all rs p s t d (omega arith) r in
    subst AreZero (sym f.is) (zeros rs f.factor (omega (arith, f.long)))
  where
    zeros : (rs q : List ℕ) → length q ≡ 0 → AreZero (with_roots rs q)
    zeros [] [] e = tt
    zeros [] (b ∷ q) e = absurd (omega arith)
    zeros (a ∷ rs) q e = with_root_zero a (with_roots rs q) (zeros rs q e)
