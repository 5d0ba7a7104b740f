-- The powers of different elements are independent.
use Rattle.std.proofs.Common.{◌≡◌, ℕ, zero, suc, ◌<◌, ◌≢◌, ◌⊎◌, inl, inr, List, [], ◌∷◌, length, refl, sym, ap, ap₂, ◌∙◌, arith, lit<}
use Rattle.std.specs.Prelude.{bit_xor}
use lib.Bits.{xor_self, xor_zero_r}
use Rattle.gf256.specs.Field.{mul}
use Rattle.gf256.proofs.FieldLaws.{mul_comm, mul_assoc, mul_xor_left, mul_xor_right, mul_small, mul_no_zero, mul_zero_left, mul_zero_right, one_right, one_small, xor_four, xor_small, xor_equal}

-- a power of an element
abbrev pub raise : ℕ → ℕ → ℕ
raise x zero = 1
raise x (suc i) = mul x (raise x i)

pub raise_small : (x i : ℕ) → x < 256 → raise x i < 256
raise_small x zero l = one_small
raise_small x (suc i) l = mul_small x (raise x i) l (raise_small x i l)

-- a position and a value
abbrev pub Term : Type 0
Term = ℕ × ℕ

-- the sum of the values, each times the i-th power of its position
abbrev pub sum_at : ℕ → List Term → ℕ
sum_at i [] = 0
sum_at i (t ∷ ts) = bit_xor (mul t.1 (raise t.0 i)) (sum_at i ts)

abbrev pub Small : List Term → Type 0
Small [] = Unit {0}
Small (t ∷ ts) = (t.0 < 256) × (t.1 < 256) × Small ts

abbrev pub Apart : ℕ → List Term → Type 0
Apart x [] = Unit {0}
Apart x (t ∷ ts) = (t.0 ≢ x) × Apart x ts

abbrev pub Distinct : List Term → Type 0
Distinct [] = Unit {0}
Distinct (t ∷ ts) = Apart t.0 ts × Distinct ts

abbrev pub AllZero : List Term → Type 0
AllZero [] = Unit {0}
AllZero (t ∷ ts) = (t.1 ≡ 0) × AllZero ts

-- each value times (its position less x)
abbrev pub scaled : ℕ → List Term → List Term
scaled x [] = []
scaled x (t ∷ ts) = (t.0, mul t.1 (bit_xor t.0 x)) ∷ scaled x ts

pub sum_small : (i : ℕ) (ts : List Term) → Small ts → sum_at i ts < 256
sum_small i [] s = lit< tt
sum_small i (t ∷ ts) s = xor_small _ _ (mul_small t.1 (raise t.0 i) s.1 (raise_small t.0 i s.0)) (sum_small i ts s.2)

pub length-scaled : (x : ℕ) (ts : List Term) → length (scaled x ts) ≡ length ts
length-scaled x [] = refl
length-scaled x (t ∷ ts) = ap suc (length-scaled x ts)

pub scaled_small : (x : ℕ) (ts : List Term) → x < 256 → Small ts → Small (scaled x ts)
scaled_small x [] l s = tt
scaled_small x (t ∷ ts) l s = (s.0, mul_small t.1 (bit_xor t.0 x) s.1 (xor_small t.0 x s.0 l), scaled_small x ts l s.2)

scaled_apart : (y x : ℕ) (ts : List Term) → Apart y ts → Apart y (scaled x ts)
scaled_apart y x [] a = tt
scaled_apart y x (t ∷ ts) a = (a.0, scaled_apart y x ts a.1)

pub scaled_distinct : (x : ℕ) (ts : List Term) → Distinct ts → Distinct (scaled x ts)
scaled_distinct x [] d = tt
scaled_distinct x (t ∷ ts) d = (scaled_apart t.0 x ts d.0, scaled_distinct x ts d.1)

one_term : (x y v p : ℕ) → x < 256 → y < 256 → v < 256 → p < 256 → mul (mul v (bit_xor y x)) p ≡ bit_xor (mul v (mul y p)) (mul x (mul v p))
one_term x y v p lx ly lv lp =
    ap (λ z. mul z p) (mul_xor_right v y x lv ly lx) ∙ mul_xor_left (mul v y) (mul v x) p
    ∙ ap₂ bit_xor (mul_assoc v y p lv ly lp) (ap (λ z. mul z p) (mul_comm v x lv lx) ∙ mul_assoc x v p lx lv lp)

pub scaled_sum : (i x : ℕ) (ts : List Term) → x < 256 → Small ts → sum_at i (scaled x ts) ≡ bit_xor (sum_at (suc i) ts) (mul x (sum_at i ts))
scaled_sum i x [] l s = sym (mul_zero_right x)
scaled_sum i x (t ∷ ts) l s =
    let p = raise_small t.0 i s.0 in
    ap₂ bit_xor (one_term x t.0 t.1 (raise t.0 i) l s.0 s.1 p) (scaled_sum i x ts l s.2)
    ∙ xor_four (mul t.1 (raise t.0 (suc i))) (mul x (mul t.1 (raise t.0 i))) (sum_at (suc i) ts) (mul x (sum_at i ts))
    ∙ ap (bit_xor (sum_at (suc i) (t ∷ ts))) (sym (mul_xor_right x (mul t.1 (raise t.0 i)) (sum_at i ts) l (mul_small t.1 (raise t.0 i) s.1 p) (sum_small i ts s.2)))

-- the term at x itself vanishes
pub head_goes : (x v i : ℕ) → x < 256 → v < 256 → bit_xor (mul v (raise x (suc i))) (mul x (mul v (raise x i))) ≡ 0
head_goes x v i l m = sym (one_term x x v (raise x i) l l m (raise_small x i l)) ∙ ap (λ z. mul (mul v z) (raise x i)) (xor_self x) ∙ ap (λ z. mul z (raise x i)) (mul_zero_right v) ∙ mul_zero_left (raise x i)

pub tail_sum : (i : ℕ) (t : Term) (ts : List Term) → Small (t ∷ ts) → sum_at (suc i) (t ∷ ts) ≡ 0 → sum_at i (t ∷ ts) ≡ 0 → sum_at i (scaled t.0 ts) ≡ 0
tail_sum i t ts s h k =
    scaled_sum i t.0 ts s.0 s.2
    ∙ ap (λ z. bit_xor z (bit_xor (sum_at (suc i) ts) (mul t.0 (sum_at i ts)))) (sym (head_goes t.0 t.1 i s.0 s.1))
    ∙ xor_four (mul t.1 (raise t.0 (suc i))) (mul t.0 (mul t.1 (raise t.0 i))) (sum_at (suc i) ts) (mul t.0 (sum_at i ts))
    ∙ ap₂ bit_xor h (sym (mul_xor_right t.0 (mul t.1 (raise t.0 i)) (sum_at i ts) s.0 (mul_small t.1 (raise t.0 i) s.1 (raise_small t.0 i s.0)) (sum_small i ts s.2)) ∙ ap (mul t.0) k ∙ mul_zero_right t.0)

zero_back : (x : ℕ) (ts : List Term) → x < 256 → Small ts → Apart x ts → AllZero (scaled x ts) → AllZero ts
zero_back x [] l s a z = tt
zero_back x (t ∷ ts) l s a z = (go (mul_no_zero t.1 (bit_xor t.0 x) s.1 (xor_small t.0 x s.0 l) z.0), zero_back x ts l s.2 a.1 z.1)
  where
    go : (t.1 ≡ 0) ⊎ (bit_xor t.0 x ≡ 0) → t.1 ≡ 0
    go (inl e) = e
    go (inr e) = absurd (a.0 (xor_equal t.0 x e))

pub zero_sum : (i : ℕ) (ts : List Term) → AllZero ts → sum_at i ts ≡ 0
zero_sum i [] z = refl
zero_sum i (t ∷ ts) z = ap₂ bit_xor (ap (λ v. mul v (raise t.0 i)) z.0 ∙ mul_zero_left (raise t.0 i)) (zero_sum i ts z.1)

-- n values at different positions are 0 if the first n sums are
pub independent : (n : ℕ) (ts : List Term) → length ts ≡ n → Small ts → Distinct ts → ((i : ℕ) → i < n → sum_at i ts ≡ 0) → AllZero ts
independent zero [] e s d h = tt
independent zero (t ∷ ts) e s d h = absurd (omega arith)
independent (suc n) [] e s d h = tt
independent (suc n) (t ∷ ts) e s d h =
    let w = independent n (scaled t.0 ts) (omega (arith, length-scaled t.0 ts)) (scaled_small t.0 ts s.0 s.2) (scaled_distinct t.0 ts d.1)
    (λ i l. tail_sum i t ts s (h (suc i) (omega arith)) (h i (omega arith))) in
    let z = zero_back t.0 ts s.0 s.2 d.0 w in
    (sym (one_right t.1 s.1) ∙ sym (xor_zero_r (mul t.1 1)) ∙ ap (bit_xor (mul t.1 1)) (sym (zero_sum 0 ts z)) ∙ h 0 (omega arith), z)
