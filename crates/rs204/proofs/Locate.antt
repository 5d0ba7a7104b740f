-- The positions of a word's errors.
use Rattle.std.proofs.Common.{◌≡◌, ℕ, zero, suc, ◌+◌, ◌<◌, ◌≤◌, ◌≢◌, ◌⊎◌, inl, inr, List, [], ◌∷◌, reverse, length, refl, sym, ap, ap₂, ◌∙◌, arith, lit≤}
use Rattle.std.specs.Prelude.{bit_xor}
use Rattle.std.proofs.lemmas.List.{length-reverse}
use Rattle.gf256.specs.Field.{mul, power}
use Rattle.gf256.proofs.FieldLaws.{mul_comm, mul_assoc, mul_xor_left, mul_small, mul_no_zero, mul_zero_right, xor_four, mul_xor_right}
use Rattle.rs204.proofs.Independent.{raise, raise_small, Term, sum_at, Small, Distinct, Apart, AllZero, independent, zero_sum, sum_small}
use Rattle.rs204.specs.Decoding.{Differ, AllDiffer}
use Rattle.rs204.specs.Codes.{first_powers, AreBytes, IsCodeword}
use Rattle.rs204.specs.Polynomials.{value_at, along}
use Rattle.rs204.proofs.Polynomials.{value_small, first_bytes, factor_all, AreRoots}
use Rattle.rs204.proofs.Distance.{powers_differ, reverse_bytes}

first_differ : (m n : ℕ) → n ≤ m → m < 255 → Differ (power m) (first_powers n)
first_differ m zero l k = tt
first_differ m (suc n) l k = (λ e. powers_differ n m (omega arith) k (sym e), first_differ m n (omega arith) k)

pub first_all_differ : (n : ℕ) → n ≤ 255 → AllDiffer (first_powers n)
first_all_differ zero l = tt
first_all_differ (suc n) l = (first_differ n n (omega arith) (omega arith), first_all_differ n (omega arith))

pub first_roots : (n : ℕ) (p : List ℕ) → ((i : ℕ) → i < n → value_at (power i) p ≡ 0) → AreRoots (first_powers n) p
first_roots zero p h = tt
first_roots (suc n) p h = (h n (omega arith), first_roots n p (λ i l. h i (omega arith)))

pub length-first : (n : ℕ) → length (first_powers n) ≡ n
length-first zero = refl
length-first (suc n) = ap suc (length-first n)

-- a word that is 0 at the first sixteen powers is a codeword
pub codeword_from_roots : (w : List ℕ) → length w ≡ 204 → AreBytes w → ((i : ℕ) → i < 16 → value_at (power i) (reverse w) ≡ 0) → IsCodeword w
codeword_from_roots w l s h =
    let f = factor_all (first_powers 16) (reverse w) (first_bytes 16) (reverse_bytes w [] s tt) (first_all_differ 16 (lit≤ tt)) (omega (arith, length-reverse w, l, length-first 16)) (first_roots 16 (reverse w) h) in
    record { long = l; bytes = s; factor = f.factor; factor_bytes = f.bytes; is = f.is }

-- ---- the locator

-- each value times the polynomial's value at its position
abbrev pub weighted : List ℕ → List Term → List Term
weighted cs [] = []
weighted cs (t ∷ ts) = (t.0, mul t.1 (value_at t.0 cs)) ∷ weighted cs ts

length-weighted : (cs : List ℕ) (ts : List Term) → length (weighted cs ts) ≡ length ts
length-weighted cs [] = refl
length-weighted cs (t ∷ ts) = ap suc (length-weighted cs ts)

weighted_small : (cs : List ℕ) (ts : List Term) → AreBytes cs → Small ts → Small (weighted cs ts)
weighted_small cs [] s t = tt
weighted_small cs (t ∷ ts) s u = (u.0, mul_small t.1 (value_at t.0 cs) u.1 (value_small t.0 cs u.0 s), weighted_small cs ts s u.2)

weighted_apart : (x : ℕ) (cs : List ℕ) (ts : List Term) → Apart x ts → Apart x (weighted cs ts)
weighted_apart x cs [] a = tt
weighted_apart x cs (t ∷ ts) a = (a.0, weighted_apart x cs ts a.1)

weighted_distinct : (cs : List ℕ) (ts : List Term) → Distinct ts → Distinct (weighted cs ts)
weighted_distinct cs [] d = tt
weighted_distinct cs (t ∷ ts) d = (weighted_apart t.0 cs ts d.0, weighted_distinct cs ts d.1)

none_weighted : (ts : List Term) → AllZero (weighted [] ts)
none_weighted [] = tt
none_weighted (t ∷ ts) = (mul_zero_right t.1, none_weighted ts)

one_weighted : (c v x u p : ℕ) → c < 256 → v < 256 → x < 256 → u < 256 → p < 256 → bit_xor (mul c (mul v p)) (mul (mul v u) (mul x p)) ≡ mul (mul v (bit_xor c (mul x u))) p
one_weighted c v x u p lc lv lx lu lp =
    ap₂ bit_xor
    (sym (mul_assoc c v p lc lv lp) ∙ ap (λ z. mul z p) (mul_comm c v lc lv))
    (sym (mul_assoc (mul v u) x p (mul_small v u lv lu) lx lp) ∙ ap (λ z. mul z p) (mul_assoc v u x lv lu lx ∙ ap (mul v) (mul_comm u x lu lx)))
    ∙ sym (mul_xor_left (mul v c) (mul v (mul x u)) p)
    ∙ ap (λ z. mul z p) (sym (mul_xor_right v c (mul x u) lv lc (mul_small x u lx lu)))

next_weighted : (i c : ℕ) (cs : List ℕ) (ts : List Term) → c < 256 → AreBytes cs → Small ts → bit_xor (mul c (sum_at i ts)) (sum_at (suc i) (weighted cs ts)) ≡ sum_at i (weighted (c ∷ cs) ts)
next_weighted i c cs [] l s u = ap (λ z. bit_xor z 0) (mul_zero_right c)
next_weighted i c cs (t ∷ ts) l s u =
    let p = raise t.0 i in let q = raise_small t.0 i u.0 in let w = value_at t.0 cs in let ws = value_small t.0 cs u.0 s in
    ap (λ z. bit_xor z (sum_at (suc i) (weighted cs (t ∷ ts)))) (mul_xor_right c (mul t.1 p) (sum_at i ts) l (mul_small t.1 p u.1 q) (sum_small i ts u.2))
    ∙ xor_four (mul c (mul t.1 p)) (mul c (sum_at i ts)) (mul (mul t.1 w) (mul t.0 p)) (sum_at (suc i) (weighted cs ts))
    ∙ ap₂ bit_xor (one_weighted c t.1 t.0 w p l u.1 u.0 ws q) (next_weighted i c cs ts l s u.2)

pub along_is : (cs : List ℕ) (i : ℕ) (ts : List Term) → AreBytes cs → Small ts → along cs (λ k. sum_at k ts) i ≡ sum_at i (weighted cs ts)
along_is [] i ts s u = sym (zero_sum i (weighted [] ts) (none_weighted ts))
along_is (c ∷ cs) i ts s u = ap (bit_xor (mul c (sum_at i ts))) (along_is cs (suc i) ts s.1 u) ∙ next_weighted i c cs ts s.0 s.1 u

pub along_same : (cs : List ℕ) (s t : ℕ → ℕ) (i n : ℕ) → i + length cs ≤ n → ((k : ℕ) → k < n → s k ≡ t k) → along cs s i ≡ along cs t i
along_same [] s t i n l h = refl
along_same (c ∷ cs) s t i n l h = ap₂ (λ y z. bit_xor (mul c y) z) (h i (omega arith)) (along_same cs s t (suc i) n (omega arith) h)

-- the polynomial is 0 at the position of each nonzero term
abbrev pub Locates : List ℕ → List Term → Type 0
Locates cs [] = Unit {0}
Locates cs (t ∷ ts) = (t.1 ≢ 0 → value_at t.0 cs ≡ 0) × Locates cs ts

located : (cs : List ℕ) (ts : List Term) → AreBytes cs → Small ts → AllZero (weighted cs ts) → Locates cs ts
located cs [] s u z = tt
located cs (t ∷ ts) s u z = (λ n. go n (mul_no_zero t.1 (value_at t.0 cs) u.1 (value_small t.0 cs u.0 s) z.0), located cs ts s u.2 z.1)
  where
    go : t.1 ≢ 0 → (t.1 ≡ 0) ⊎ (value_at t.0 cs ≡ 0) → value_at t.0 cs ≡ 0
    go n (inl e) = absurd (n e)
    go n (inr e) = e

-- a polynomial of degree n whose n sums along 2n values of at most n terms are 0 is 0 at the positions of these terms
pub locator : (n : ℕ) (cs : List ℕ) (ts : List Term) (s : ℕ → ℕ) → AreBytes cs → length cs ≡ n + 1 → Small ts → Distinct ts → length ts ≤ n → ((k : ℕ) → k < n + n → s k ≡ sum_at k ts) → ((i : ℕ) → i < n → along cs s i ≡ 0) → Locates cs ts
locator n cs ts s b l u d m h z =
    located cs ts b u
    (independent (length ts) (weighted cs ts) (length-weighted cs ts) (weighted_small cs ts b u) (weighted_distinct cs ts d)
    (λ i k. sym (along_is cs i ts b u) ∙ sym (along_same cs s (λ k. sum_at k ts) i (n + n) (omega (arith, l)) h) ∙ z i (omega arith)))
