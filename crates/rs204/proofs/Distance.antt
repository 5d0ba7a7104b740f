-- Two different codewords differ in at least seventeen positions.
use Rattle.std.proofs.Common.{◌≡◌, ℕ, zero, suc, ◌+◌, ◌*◌, ◌<◌, ◌≤◌, ◌≢◌, Bool, true, false, cond, List, [], ◌∷◌, ◌++◌, reverse, length, refl, sym, ap, ap₂, ◌∙◌, arith, eqb, add_assoc}
use Rattle.std.specs.Prelude.{bit_xor}
use Rattle.std.proofs.lemmas.Bool.{eqb-true, eqb-false, cond_both, cond-false, ne_eqb}
use Rattle.std.proofs.lemmas.List.{length-reverse}
use Rattle.std.proofs.lemmas.Grind.{reverse_onto}
use mathlib.Core.List.{reverse_aux}
use native.Mathlib.Nat.{mul-zero, zero-add}
use lib.Bits.{xor_self}
use Rattle.gf256.specs.Field.{mul, power}
use Rattle.gf256.proofs.TableRules.{powers_differ as powers_apart}
use Rattle.gf256.proofs.FieldLaws.{mul_comm, mul_assoc, mul_small, mul_zero_left, mul_zero_right, power_add, power_zero, mul_xor_right, xor_equal, power_small}
use Rattle.rs204.proofs.Independent.{raise, Term, sum_at, Small, Distinct, Apart, AllZero, independent}
use Rattle.rs204.specs.Codes.{plus, AreBytes, IsCodeword, distance}
use Rattle.rs204.specs.Polynomials.{value_at, weight}
use Rattle.rs204.proofs.Polynomials.{value_small, value_plus, codeword_root, plus_bytes}

-- ---- the powers are different

pub power_times : (i k : ℕ) → raise (power k) i ≡ power (k * i)
power_times zero k = sym power_zero ∙ ap power (sym (mul-zero k))
power_times (suc i) k =
    ap (mul (power k)) (power_times i k) ∙ sym (power_add k (k * i))
    ∙ ap power (omega arith)

pub powers_differ : (i j : ℕ) → i < j → j < 255 → power j ≢ power i
powers_differ i j l m e = let d : j ≡ i = powers_apart j i m (omega arith) e in absurd (omega arith)

-- ---- the nonzero terms of a polynomial

abbrev pub terms : ℕ → List ℕ → List Term
terms k [] = []
terms k (a ∷ p) = cond (eqb a 0) (terms (suc k) p) ((power k, a) ∷ terms (suc k) p)

pub terms_small : (k : ℕ) (p : List ℕ) → AreBytes p → Small (terms k p)
terms_small k [] s = tt
terms_small k (a ∷ p) s = cond_both (eqb a 0) _ _ Small (λ e. terms_small (suc k) p s.1) (λ e. (power_small k, s.0, terms_small (suc k) p s.1))

pub length-terms : (k : ℕ) (p : List ℕ) → length (terms k p) ≡ weight p
length-terms k [] = refl
length-terms k (a ∷ p) = go (eqb a 0) (length-terms (suc k) p)
  where
    go : (b : Bool) → length (terms (suc k) p) ≡ weight p → length (cond b (terms (suc k) p) ((power k, a) ∷ terms (suc k) p)) ≡ cond b 0 1 + weight p
    go true e = omega (arith, e)
    go false e = omega (arith, e)

terms_apart : (i k : ℕ) (p : List ℕ) → i < k → k + length p ≤ 255 → Apart (power i) (terms k p)
terms_apart i k [] l m = tt
terms_apart i k (a ∷ p) l m =
    let r = terms_apart i (suc k) p (omega arith) (omega arith) in
    cond_both (eqb a 0) _ _ (Apart (power i)) (λ e. r) (λ e. (powers_differ i k l (omega arith), r))

pub terms_distinct : (k : ℕ) (p : List ℕ) → k + length p ≤ 255 → Distinct (terms k p)
terms_distinct k [] m = tt
terms_distinct k (a ∷ p) m =
    let r = terms_distinct (suc k) p (omega arith) in
    cond_both (eqb a 0) _ _ Distinct (λ e. r) (λ e. (terms_apart k (suc k) p (omega arith) (omega arith), r))

none_left : (k : ℕ) (p : List ℕ) → AllZero (terms k p) → weight p ≡ 0
none_left k [] z = refl
none_left k (a ∷ p) z = go (eqb a 0) refl (none_left (suc k) p) z
  where
    go : (b : Bool) → eqb a 0 ≡ b → (AllZero (terms (suc k) p) → weight p ≡ 0) → AllZero (cond b (terms (suc k) p) ((power k, a) ∷ terms (suc k) p)) → cond b 0 1 + weight p ≡ 0
    go true e f z = omega (arith, f z)
    go false e f z = absurd (eqb-false a 0 e z.0)

next_term : (i k a v : ℕ) → a < 256 → v < 256 → mul (power (k * i)) (bit_xor a (mul (power i) v)) ≡ bit_xor (mul a (raise (power k) i)) (mul (power (suc k * i)) v)
next_term i k a v l m =
    let u = power_small (k * i) in
    let w : k * i + i ≡ suc k * i = omega arith in
    mul_xor_right (power (k * i)) a (mul (power i) v) u l (mul_small (power i) v (power_small i) m)
    ∙ ap₂ bit_xor (mul_comm (power (k * i)) a u l ∙ ap (mul a) (sym (power_times i k)))
    (sym (mul_assoc (power (k * i)) (power i) v u (power_small i) m) ∙ ap (λ z. mul z v) (sym (power_add (k * i) i) ∙ ap power w))

pub sum_terms : (i k : ℕ) (p : List ℕ) → AreBytes p → sum_at i (terms k p) ≡ mul (power (k * i)) (value_at (power i) p)
sum_terms i k [] s = sym (mul_zero_right (power (k * i)))
sum_terms i k (a ∷ p) s = go (eqb a 0) refl ∙ ap (bit_xor (mul a (raise (power k) i))) (sum_terms i (suc k) p s.1) ∙ sym (next_term i k a (value_at (power i) p) s.0 (value_small (power i) p (power_small i) s.1))
  where
    go : (b : Bool) → eqb a 0 ≡ b → sum_at i (cond b (terms (suc k) p) ((power k, a) ∷ terms (suc k) p)) ≡ bit_xor (mul a (raise (power k) i)) (sum_at i (terms (suc k) p))
    go true e = ap (λ z. bit_xor z (sum_at i (terms (suc k) p))) (sym (ap (λ z. mul z (raise (power k) i)) (eqb-true a 0 e) ∙ mul_zero_left (raise (power k) i)))
    go false e = refl

-- a polynomial of at most n terms that is 0 at the first n powers is 0
pub sparse_zero : (n : ℕ) (p : List ℕ) → AreBytes p → length p ≤ 255 → weight p ≤ n → ((i : ℕ) → i < n → value_at (power i) p ≡ 0) → weight p ≡ 0
sparse_zero n p s l w h =
    none_left 0 p (independent (weight p) (terms 0 p) (length-terms 0 p) (terms_small 0 p s) (terms_distinct 0 p (omega arith))
    (λ i m. sum_terms i 0 p s ∙ ap (mul (power (0 * i))) (h i (omega arith)) ∙ mul_zero_right (power (0 * i))))

-- ---- two words

plus_append : (p q r s : List ℕ) → length p ≡ length r → plus (p ++ q) (r ++ s) ≡ plus p r ++ plus q s
plus_append [] q [] s l = refl
plus_append [] q (b ∷ r) s l = absurd (omega arith)
plus_append (a ∷ p) q [] s l = absurd (omega arith)
plus_append (a ∷ p) q (b ∷ r) s l = ap (λ z. bit_xor a b ∷ z) (plus_append p q r s (omega arith))

weight-append : (p q : List ℕ) → weight (p ++ q) ≡ weight p + weight q
weight-append [] q = sym (zero-add (weight q))
weight-append (a ∷ p) q = ap (λ z. cond (eqb a 0) 0 1 + z) (weight-append p q) ∙ sym (add_assoc (cond (eqb a 0) 0 1) (weight p) (weight q))

-- 1 if two bytes differ
abbrev differs : Bool → ℕ
differs b = cond b 0 1

one_place : (a b : ℕ) → differs (eqb (bit_xor a b) 0) ≡ differs (eqb a b)
one_place a b = go (eqb a b) refl
  where
    go : (t : Bool) → eqb a b ≡ t → differs (eqb (bit_xor a b) 0) ≡ differs t
    go true e = ap (λ z. differs (eqb z 0)) (ap (bit_xor a) (sym (eqb-true a b e)) ∙ xor_self a)
    go false e = cond-false (eqb (bit_xor a b) 0) 0 1 (ne_eqb (bit_xor a b) 0 (λ h. eqb-false a b e (xor_equal a b h)))

pub weight_reverse : (v w : List ℕ) → length v ≡ length w → weight (plus (reverse v) (reverse w)) ≡ distance v w
weight_reverse [] [] l = refl
weight_reverse [] (b ∷ w) l = absurd (omega arith)
weight_reverse (a ∷ v) [] l = absurd (omega arith)
weight_reverse (a ∷ v) (b ∷ w) l =
    let k : length (reverse v) ≡ length (reverse w) = omega (arith, length-reverse v, length-reverse w) in
    ap₂ (λ x y. weight (plus x y)) (reverse_onto v a []) (reverse_onto w b [])
    ∙ ap weight (plus_append (reverse v) (a ∷ []) (reverse w) (b ∷ []) k)
    ∙ weight-append (plus (reverse v) (reverse w)) (bit_xor a b ∷ [])
    ∙ omega (arith, weight_reverse v w (omega arith), one_place a b)

pub same_word : (v w : List ℕ) → length v ≡ length w → distance v w ≡ 0 → v ≡ w
same_word [] [] l e = refl
same_word [] (b ∷ w) l e = absurd (omega arith)
same_word (a ∷ v) [] l e = absurd (omega arith)
same_word (a ∷ v) (b ∷ w) l e = go (eqb a b) refl (same_word v w (omega arith)) e
  where
    go : (t : Bool) → eqb a b ≡ t → (distance v w ≡ 0 → v ≡ w) → cond t 0 1 + distance v w ≡ 0 → a ∷ v ≡ b ∷ w
    go true h f e = ap₂ (λ x y. x ∷ y) (eqb-true a b h) (f (omega arith))
    go false h f e = absurd (omega arith)

pub reverse_bytes : (p q : List ℕ) → AreBytes p → AreBytes q → AreBytes (reverse_aux p q)
reverse_bytes [] q s t = t
reverse_bytes (a ∷ p) q s t = reverse_bytes p (a ∷ q) s.1 (s.0, t)

pub length-plus : (p q : List ℕ) → length p ≡ length q → length (plus p q) ≡ length p
length-plus [] [] l = refl
length-plus [] (b ∷ q) l = absurd (omega arith)
length-plus (a ∷ p) [] l = absurd (omega arith)
length-plus (a ∷ p) (b ∷ q) l = ap suc (length-plus p q (omega arith))

-- two codewords at distance at most 16 are equal
pub codewords_apart : (v w : List ℕ) → IsCodeword v → IsCodeword w → distance v w ≤ 16 → v ≡ w
codewords_apart v w h k d =
    let l : length v ≡ length w = h.long ∙ sym k.long in
    let m : length (reverse v) ≡ length (reverse w) = omega (arith, length-reverse v, length-reverse w) in
    let s = reverse_bytes v [] h.bytes tt in let t = reverse_bytes w [] k.bytes tt in
    same_word v w l
    (sym (weight_reverse v w l)
    ∙ sparse_zero 16 (plus (reverse v) (reverse w)) (plus_bytes _ _ s t) (omega (arith, length-plus (reverse v) (reverse w) m, length-reverse v, h.long)) (omega (arith, weight_reverse v w l))
    (λ i g. value_plus (power i) (reverse v) (reverse w) (power_small i) s t ∙ ap₂ bit_xor (codeword_root v i h g) (codeword_root w i k g)))
