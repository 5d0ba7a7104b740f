-- A close codeword is found.
use Rattle.std.proofs.Common.{◌≡◌, ◌≢◌, ℕ, zero, suc, ◌+◌, ◌-◌, ◌*◌, ◌<◌, ◌≤◌, ◌⊎◌, inl, inr, Bool, true, false, cond, List, [], ◌∷◌, ◌++◌, map, reverse, length, get_or, take, set, refl, sym, ap, ap₂, ◌∙◌, subst, arith, get_or-set_same, get_or-set_other, ext_get_or, lit<, lit≤, add-one, add-zero, append-nil, length-set, eqb, length-take-le, true≢false, length-take, get_or-take}
use Rattle.std.specs.Prelude.{bit_xor, slice_index}
use Rattle.std.specs.List.{AllByRecursion}
use Rattle.std.proofs.lemmas.Bool.{cases_eq, cases_lt, eqb-true, eqb-false, eq-eqb}
use Rattle.std.proofs.lemmas.List.{take_more, take_all, take_at, map-append, length-map, get_or-reverse, length-reverse, get_or_past}
use native.Mathlib.Nat.{mul_comm as times_comm}
use Rattle.std.proofs.Math.Seq.{take-nil}
use lib.Bits.{xor_assoc, xor_self, xor_zero_r}
use Rattle.gf256.specs.Field.{mul, power}
use Rattle.gf256.proofs.FieldLaws.{mul_comm, mul_small, mul_zero_left, mul_zero_right, mul_assoc, one_left, power_zero, mul_xor_right, one_right, xor_equal, power_small}
use Rattle.rs204.proofs.Independent as terms
use Rattle.rs204.specs.Codes.{plus, AreBytes, IsCodeword, distance}
use Rattle.rs204.specs.Polynomials.{value_at, along, weight}
use Rattle.rs204.specs.Decoding.{Differ, AllDiffer, raise, moment, Solves, chosen, is_root, corrected, IsLocator, IsSolution, AreSyndromes, DifferAtRoots}
use Rattle.rs204.proofs.Polynomials.{value_small, value_plus, codeword_root, plus_bytes, AreRoots, AreZero, too_many}
use Rattle.rs204.proofs.Distance.{powers_differ, power_times, terms, terms_small, length-terms, terms_distinct, sum_terms, weight_reverse, reverse_bytes, length-plus, same_word}
use Rattle.rs204.proofs.Locate.{locator, Locates, codeword_from_roots}
use Rattle.rs204.proofs.Solving.{raise_same}
use Rattle.rs204.proofs.CodeSteps.{get_or-plus}

-- ---- the chosen positions

all_below : (n : ℕ) (t : ℕ → Bool) → AllByRecursion (λ k. k < n) (chosen t n)
unfolding chosen
all_below zero t = tt
all_below (suc n) t = more (chosen t n) (all_below n t) (t n)
  where
    more : (xs : List ℕ) → AllByRecursion (λ k. k < n) xs → (b : Bool) → AllByRecursion (λ k. k < suc n) (xs ++ cond b (n ∷ []) [])
    more [] a true = (omega arith, tt)
    more [] a false = tt
    more (x ∷ xs) a b = (omega (arith, a.0), more xs a.1 b)

differ_push : (x n : ℕ) (ys : List ℕ) → Differ x ys → n ≢ x → Differ x (ys ++ n ∷ [])
differ_push x n [] d e = (e, tt)
differ_push x n (y ∷ ys) d e = (d.0, differ_push x n ys d.1 e)

-- powers for positions below n differ from the power for n
powers_push : (n : ℕ) (xs : List ℕ) → n < 255 → AllByRecursion (λ k. k < n) xs → AllDiffer (map power xs) → AllDiffer (map power xs ++ power n ∷ [])
powers_push n [] l a d = (tt, tt)
powers_push n (x ∷ xs) l a d = (differ_push (power x) (power n) (map power xs) d.0 (powers_differ x n a.0 l), powers_push n xs l a.1 d.1)

pub chosen_differ : (n : ℕ) (t : ℕ → Bool) → n ≤ 255 → AllDiffer (map power (chosen t n))
unfolding chosen
chosen_differ zero t l = tt
chosen_differ (suc n) t l = go (t n) (chosen_differ n t (omega arith))
  where
    go : (b : Bool) → AllDiffer (map power (chosen t n)) → AllDiffer (map power (chosen t n ++ cond b (n ∷ []) []))
    go true d = subst AllDiffer (sym (map-append power (chosen t n) (n ∷ []))) (powers_push n (chosen t n) (omega arith) (all_below n t) d)
    go false d = subst (λ z. AllDiffer (map power z)) (sym (append-nil (chosen t n))) d

roots_push : (p : List ℕ) (x : ℕ) (xs : List ℕ) → AreRoots xs p → value_at x p ≡ 0 → AreRoots (xs ++ x ∷ []) p
roots_push p x [] r e = (e, tt)
roots_push p x (y ∷ xs) r e = (r.0, roots_push p x xs r.1 e)

chosen_roots : (n : ℕ) (p : List ℕ) → AreRoots (map power (chosen (is_root p) n)) p
unfolding chosen
chosen_roots zero p = tt
chosen_roots (suc n) p = go (is_root p n) refl (chosen_roots n p)
  where
    go : (b : Bool) → is_root p n ≡ b → AreRoots (map power (chosen (is_root p) n)) p → AreRoots (map power (chosen (is_root p) n ++ cond b (n ∷ []) [])) p
    go true e r = subst (λ z. AreRoots z p) (sym (map-append power (chosen (is_root p) n) (n ∷ []))) (roots_push p (power n) (map power (chosen (is_root p) n)) r (eqb-true _ 0 e))
    go false e r = subst (λ z. AreRoots (map power z) p) (sym (append-nil (chosen (is_root p) n))) r

take_roots : (k : ℕ) (xs p : List ℕ) → AreRoots xs p → AreRoots (take k xs) p
take_roots zero xs p r = tt
take_roots (suc k) [] p r = tt
take_roots (suc k) (x ∷ xs) p r = (r.0, take_roots k xs p r.1)

take_differ : (k x : ℕ) (xs : List ℕ) → Differ x xs → Differ x (take k xs)
take_differ zero x xs d = tt
take_differ (suc k) x [] d = tt
take_differ (suc k) x (y ∷ xs) d = (d.0, take_differ k x xs d.1)

take_all_differ : (k : ℕ) (xs : List ℕ) → AllDiffer xs → AllDiffer (take k xs)
take_all_differ zero xs d = tt
take_all_differ (suc k) [] d = tt
take_all_differ (suc k) (x ∷ xs) d = (take_differ k x xs d.0, take_all_differ k xs d.1)

pub take_bytes : (k : ℕ) (xs : List ℕ) → AreBytes xs → AreBytes (take k xs)
take_bytes zero xs b = tt
take_bytes (suc k) [] b = tt
take_bytes (suc k) (x ∷ xs) b = (b.0, take_bytes k xs b.1)

powers_bytes : (xs : List ℕ) → AreBytes (map power xs)
powers_bytes [] = tt
powers_bytes (x ∷ xs) = (power_small x, powers_bytes xs)

pub zero_at : (p : List ℕ) (k : ℕ) → AreZero p → get_or p k 0 ≡ 0
zero_at [] k z = refl
zero_at (a ∷ p) zero z = z.0
zero_at (a ∷ p) (suc k) z = zero_at p k z.1

-- a nonzero polynomial has fewer roots than coefficients
pub fewer_roots : (p : List ℕ) → AreBytes p → (AreZero p → ⊥) → length (chosen (is_root p) 204) < length p
fewer_roots p b some = go (cases_lt (length (chosen (is_root p) 204)) (length p))
  where
    xs : List ℕ
    xs = map power (chosen (is_root p) 204)

    go : (length (chosen (is_root p) 204) < length p) ⊎ (length p ≤ length (chosen (is_root p) 204)) → length (chosen (is_root p) 204) < length p
    go (inl l) = l
    go (inr l) =
        let n : length (take (length p) xs) ≡ length p = length-take-le (length p) xs (omega (arith, l, length-map (chosen (is_root p) 204) power)) in
        absurd (some (too_many (take (length p) xs) p (take_bytes (length p) xs (powers_bytes (chosen (is_root p) 204))) b (take_all_differ (length p) xs (chosen_differ 204 (is_root p) (lit≤ tt))) n (take_roots (length p) xs p (chosen_roots 204 p))))

-- ---- the moments of an error

value_push : (x : ℕ) (p : List ℕ) (b : ℕ) → x < 256 → b < 256 → AreBytes p → value_at x (p ++ b ∷ []) ≡ bit_xor (value_at x p) (mul b (raise x (length p)))
value_push x [] b l m s = ap (bit_xor b) (mul_zero_right x) ∙ xor_zero_r b ∙ sym (one_right b m)
value_push x (a ∷ p) b l m s =
    let r : raise x (length p) < 256 = subst (λ z. z < 256) (sym (raise_same x (length p))) (terms.raise_small x (length p) l) in
    ap (λ z. bit_xor a (mul x z)) (value_push x p b l m s.1)
    ∙ ap (bit_xor a) (mul_xor_right x (value_at x p) (mul b (raise x (length p))) l (value_small x p l s.1) (mul_small b _ m r) ∙ ap (bit_xor (mul x (value_at x p))) (sym (mul_assoc x b (raise x (length p)) l m r) ∙ ap (λ z. mul z (raise x (length p))) (mul_comm x b l m) ∙ mul_assoc b x (raise x (length p)) m l r))
    ∙ sym (xor_assoc a (mul x (value_at x p)) (mul b (mul x (raise x (length p)))))

moment_push : (i : ℕ) (xs vs : List ℕ) (x v : ℕ) → length vs ≡ length xs → moment i (xs ++ x ∷ []) (vs ++ v ∷ []) ≡ bit_xor (moment i xs vs) (mul v (raise x i))
moment_push i [] [] x v l = xor_zero_r (mul v (raise x i))
moment_push i [] (w ∷ vs) x v l = absurd (omega arith)
moment_push i (y ∷ xs) [] x v l = absurd (omega arith)
moment_push i (y ∷ xs) (w ∷ vs) x v l = ap (bit_xor (mul w (raise y i))) (moment_push i xs vs x v (omega arith)) ∙ sym (xor_assoc (mul w (raise y i)) (moment i xs vs) (mul v (raise x i)))

raise_turned : (i n : ℕ) → raise (power n) i ≡ raise (power i) n
raise_turned i n = raise_same (power n) i ∙ power_times i n ∙ ap power (times_comm n i) ∙ sym (raise_same (power i) n ∙ power_times n i)

-- the values of a polynomial at positions
pub at : List ℕ → ℕ → ℕ
at e k = get_or e k 0

e_small : (e : List ℕ) (k : ℕ) → AreBytes e → get_or e k 0 < 256
e_small [] k b = lit< tt
e_small (a ∷ e) zero b = b.0
e_small (a ∷ e) (suc k) b = e_small e k b.1

pub moments_chosen : (i n : ℕ) (t : ℕ → Bool) (e : List ℕ) → n ≤ length e → AreBytes e → ((k : ℕ) → k < length e → get_or e k 0 ≢ 0 → t k ≡ true) → moment i (map power (chosen t n)) (map (at e) (chosen t n)) ≡ value_at (power i) (take n e)
unfolding chosen at
moments_chosen i zero t e l b h = refl
moments_chosen i (suc n) t e l b h = go (t n) refl (moments_chosen i n t e (omega arith) b h) ∙ sym (value_push (power i) (take n e) (get_or e n 0) (power_small i) (e_small e n b) (take_bytes n e b) ∙ ap (λ z. bit_xor (value_at (power i) (take n e)) (mul (get_or e n 0) (raise (power i) z))) (length-take-le n e (omega arith))) ∙ ap (value_at (power i)) (sym (take_more e n 0 (omega arith)) ∙ ap (λ z. take z e) (add-one n))
  where
    xs : List ℕ
    xs = chosen t n

    go : (c : Bool) → t n ≡ c → moment i (map power xs) (map (at e) xs) ≡ value_at (power i) (take n e)
        → moment i (map power (xs ++ cond c (n ∷ []) [])) (map (at e) (xs ++ cond c (n ∷ []) [])) ≡ bit_xor (value_at (power i) (take n e)) (mul (get_or e n 0) (raise (power i) n))
    go true q f =
        ap₂ (moment i) (map-append power xs (n ∷ [])) (map-append (at e) xs (n ∷ []))
        ∙ moment_push i (map power xs) (map (at e) xs) (power n) (get_or e n 0) (length-map xs (at e) ∙ sym (length-map xs power))
        ∙ ap₂ (λ y z. bit_xor y (mul (get_or e n 0) z)) f (raise_turned i n)
    go false q f =
        let z : get_or e n 0 ≡ 0 = zero_from (cases_eq (get_or e n 0) 0) in
        ap (λ y. moment i (map power y) (map (at e) y)) (append-nil xs) ∙ f ∙ sym (ap (λ y. bit_xor (value_at (power i) (take n e)) (mul y (raise (power i) n))) z ∙ ap (bit_xor (value_at (power i) (take n e))) (mul_zero_left (raise (power i) n)) ∙ xor_zero_r (value_at (power i) (take n e)))
      where
        zero_from : (get_or e n 0 ≡ 0) ⊎ (get_or e n 0 ≡ 0 → ⊥) → get_or e n 0 ≡ 0
        zero_from (inl y) = y
        zero_from (inr y) = absurd (true≢false (sym (h n (omega arith) y) ∙ q))

-- ---- the locator is 0 at an error

locates_at : (cs : List ℕ) (k j : ℕ) (e : List ℕ) → Locates cs (terms k e) → get_or e j 0 ≢ 0 → value_at (power (k + j)) cs ≡ 0
locates_at cs k j [] l n = absurd (n refl)
locates_at cs k j (a ∷ e) l n = go (eqb a 0) refl j l n (λ i m o. locates_at cs (suc k) i e m o)
  where
    go : (b : Bool) → eqb a 0 ≡ b → (j : ℕ) → Locates cs (cond b (terms (suc k) e) ((power k, a) ∷ terms (suc k) e)) → get_or (a ∷ e) j 0 ≢ 0
        → ((i : ℕ) → Locates cs (terms (suc k) e) → get_or e i 0 ≢ 0 → value_at (power (suc k + i)) cs ≡ 0) → value_at (power (k + j)) cs ≡ 0
    go true q zero m o f = absurd (o (eqb-true a 0 q))
    go false q zero m o f = ap (λ z. value_at (power z) cs) (add-zero k) ∙ m.0 (eqb-false a 0 q)
    go true q (suc j) m o f = let w : k + suc j ≡ suc k + j = omega arith in ap (λ z. value_at (power z) cs) w ∙ f j m o
    go false q (suc j) m o f = let w : k + suc j ≡ suc k + j = omega arith in ap (λ z. value_at (power z) cs) w ∙ f j m.1 o

power_none : power 0 ≡ 1
power_none = power_zero

zero_times : (k : ℕ) → 0 * k ≡ 0
zero_times k = omega arith

-- ---- zero coefficients may be left out

value_take : (n x : ℕ) (p : List ℕ) → ((j : ℕ) → n ≤ j → get_or p j 0 ≡ 0) → value_at x (take n p) ≡ value_at x p
value_take n x [] h = ap (value_at x) (take-nil n)
value_take zero x (a ∷ p) h = sym (ap₂ (λ y z. bit_xor y (mul x z)) (h 0 (omega arith)) (sym (value_take 0 x p (λ j l. h (suc j) (omega arith)))) ∙ mul_zero_right x)
value_take (suc n) x (a ∷ p) h = ap (λ z. bit_xor a (mul x z)) (value_take n x p (λ j l. h (suc j) (omega arith)))

along_take : (n : ℕ) (p : List ℕ) (s : ℕ → ℕ) (i : ℕ) → ((j : ℕ) → n ≤ j → get_or p j 0 ≡ 0) → along (take n p) s i ≡ along p s i
along_take n [] s i h = ap (λ z. along z s i) (take-nil n)
along_take zero (a ∷ p) s i h = sym (ap₂ (λ y z. bit_xor (mul y (s i)) z) (h 0 (omega arith)) (sym (along_take 0 p s (suc i) (λ j l. h (suc j) (omega arith)))) ∙ ap (λ z. bit_xor z 0) (mul_zero_left (s i)))
along_take (suc n) (a ∷ p) s i h = ap (bit_xor (mul a (s i))) (along_take n p s (suc i) (λ j l. h (suc j) (omega arith)))

-- a locator is 0 at the positions of few errors
located_roots : (errors : ℕ) (e values p : List ℕ) → AreBytes e → length e ≤ 255 → weight e ≤ errors → errors ≤ 8 → ((i : ℕ) → i < errors + errors → slice_index values i ≡ value_at (power i) e) → IsSolution errors values p → (k : ℕ) → get_or e k 0 ≢ 0 → value_at (power k) p ≡ 0
located_roots errors e values p b l w m f h k some =
    let one : 0 < 1 = lit< tt in
    let q = take (errors + 1) p in
    let size : length q ≡ errors + 1 = length-take-le (errors + 1) p (omega (arith, h.sized 0 one)) in
    sym (value_take (errors + 1) (power k) p (λ j n. h.short 0 j one n)) ∙ ap (λ z. value_at (power z) q) (sym (zero_plus k))
    ∙ locates_at q 0 k e
    (locator errors q (terms 0 e) (λ i. slice_index values i) (take_bytes (errors + 1) p (h.bytes 0 one)) size (terms_small 0 e b) (terms_distinct 0 e (omega arith)) (omega (arith, length-terms 0 e))
    (λ i n. f i n ∙ sym (sum_terms i 0 e b ∙ zero_turn i))
    (λ i n. along_take (errors + 1) p (λ j. slice_index values j) i (λ j o. h.short 0 j one o) ∙ h.meets 0 i one n))
    some
  where
    zero_plus : (k : ℕ) → 0 + k ≡ k
    zero_plus k = omega arith

    zero_turn : (i : ℕ) → mul (power (0 * i)) (value_at (power i) e) ≡ value_at (power i) e
    zero_turn i = ap (λ z. mul (power z) (value_at (power i) e)) (zero_times i) ∙ ap (λ z. mul z (value_at (power i) e)) power_none ∙ one_left (value_at (power i) e) (value_small (power i) e (power_small i) b)

pub is_locator : (errors : ℕ) (values p : List ℕ) → errors ≤ 8 → IsSolution errors values p → IsLocator errors values p
is_locator errors values p m h =
    let one : 0 < 1 = lit< tt in
    record {
      roots = λ e b l w f k some. located_roots errors e values p b l w m f h k some;
      size = h.sized 0 one;
      bytes = h.bytes 0 one;
      degree = λ j l. h.short 0 j one (omega arith);
      some = λ z. absurd (omega (arith, sym (zero_at p (h.place 0) z) ∙ h.one 0 one));
    }

-- ---- a word and a codeword

module _ (word c : List ℕ) (long : length word ≡ 204) (bytes : AreBytes word) (code : IsCodeword c) where
  -- the polynomial of their difference
  pub error : List ℕ
  error = plus (reverse word) (reverse c)

  same_long : length (reverse word) ≡ length (reverse c)
  same_long = omega (arith, length-reverse word, length-reverse c, long, code.long)

  pub error_bytes : AreBytes error
  unfolding error
  error_bytes = plus_bytes (reverse word) (reverse c) (reverse_bytes word [] bytes tt) (reverse_bytes c [] code.bytes tt)

  pub error_long : length error ≡ 204
  unfolding error
  error_long = length-plus (reverse word) (reverse c) same_long ∙ length-reverse word ∙ long

  pub error_weight : weight error ≡ distance word c
  unfolding error
  error_weight = weight_reverse word c (long ∙ sym code.long)

  pub error_value : (values : List ℕ) → AreSyndromes word values → (i : ℕ) → i < 16 → slice_index values i ≡ value_at (power i) error
  unfolding error
  error_value values found i l = found i l ∙ sym (value_plus (power i) (reverse word) (reverse c) (power_small i) (reverse_bytes word [] bytes tt) (reverse_bytes c [] code.bytes tt) ∙ ap (bit_xor (value_at (power i) (reverse word))) (codeword_root c i code l) ∙ xor_zero_r (value_at (power i) (reverse word)))

  pub error_at : (j : ℕ) → j < 204 → get_or error (203 - j) 0 ≡ bit_xor (get_or word j 0) (get_or c j 0)
  unfolding error
  error_at j l =
      get_or-plus (reverse word) (reverse c) (203 - j)
      ∙ ap₂ bit_xor
      (get_or-reverse word (203 - j) 0 (omega (arith, long)) ∙ ap (λ z. get_or word z 0) (turned word long))
      (get_or-reverse c (203 - j) 0 (omega (arith, code.long)) ∙ ap (λ z. get_or c z 0) (turned c code.long))
    where
      turned : (w : List ℕ) → length w ≡ 204 → length w - 1 - (203 - j) ≡ j
      turned w e = omega (arith, e)

  -- the same counted from the end
  pub error_from_end : (k : ℕ) → k < 204 → get_or error k 0 ≡ bit_xor (get_or word (203 - k) 0) (get_or c (203 - k) 0)
  error_from_end k l = let q : 203 - (203 - k) ≡ k = omega arith in ap (λ z. get_or error z 0) (sym q) ∙ error_at (203 - k) (omega arith)

  -- a locator is 0 where a close codeword differs
  pub near_differs : (values p : List ℕ) → AreSyndromes word values → IsLocator 8 values p → distance word c ≤ 8 → DifferAtRoots p word c
  near_differs values p found loc near k l n =
      loc.roots error error_bytes (omega (arith, error_long)) (omega (arith, error_weight)) (error_value values found) k
      (λ z. n (xor_equal (get_or word (203 - k) 0) (get_or c (203 - k) 0) (sym (error_from_end k l) ∙ z)))

-- ---- a word and a codeword that differ only at the roots of a polynomial

module _ (word c values p : List ℕ) (long : length word ≡ 204) (bytes : AreBytes word) (code : IsCodeword c)
    (found : AreSyndromes word values) (few : length (chosen (is_root p) 204) ≤ 16) (differ : DifferAtRoots p word c) where
  abbrev fault : List ℕ
  fault = error word c long bytes code

  -- each error position is a root
  error_root : (k : ℕ) → get_or fault k 0 ≢ 0 → is_root p k ≡ true
  error_root k n = go (cases_lt k 204)
    where
      go : (k < 204) ⊎ (204 ≤ k) → is_root p k ≡ true
      go (inl l) = eq-eqb _ 0 (differ k l (λ e. n (error_from_end word c long bytes code k l ∙ ap (λ z. bit_xor z (get_or c (203 - k) 0)) e ∙ xor_self (get_or c (203 - k) 0))))
      go (inr l) = absurd (n (get_or_past (error word c long bytes code) k 0 (omega (arith, error_long word c long bytes code))))

  -- the values of the error at the positions
  pub error_values : List ℕ
  error_values = map (at fault) (chosen (is_root p) 204)

  at_bytes : (xs : List ℕ) → AreBytes (map (at fault) xs)
  unfolding at
  at_bytes [] = tt
  at_bytes (x ∷ xs) = (e_small fault x (error_bytes word c long bytes code), at_bytes xs)

  -- the solution of the moments is the error
  pub solved_error : (moments values2 : List ℕ) → ((i : ℕ) → i < length (chosen (is_root p) 204) → slice_index moments i ≡ slice_index values i) → Solves (map power (chosen (is_root p) 204)) moments values2 → values2 ≡ error_values
  unfolding error_values
  solved_error moments values2 m s =
      s (map (at fault) places) (length-map places (at fault) ∙ sym (length-map places power)) (at_bytes places)
      (λ i l.
      let w : i < 16 = omega (arith, l, length-map places power, few) in
      m i (omega (arith, l, length-map places power)) ∙ error_value word c long bytes code values found i (omega arith)
      ∙ sym (moments_chosen i 204 (is_root p) fault (omega (arith, (error_long word c long bytes code))) (error_bytes word c long bytes code) (λ k l n. error_root k n) ∙ ap (value_at (power i)) (take_all 204 fault (omega (arith, (error_long word c long bytes code))))))
    where
      places : List ℕ
      places = chosen (is_root p) 204

  -- the positions below n are corrected
  record Right (n : ℕ) (fixed : List ℕ) : Type 0 where
    size : length fixed ≡ 204
    done : (j : ℕ) → j < 204 → 203 - j < n → get_or fixed j 0 ≡ get_or c j 0
    left : (j : ℕ) → j < 204 → n ≤ 203 - j → get_or fixed j 0 ≡ get_or word j 0

  right_on : (n : ℕ) → n < 204 → (fixed : List ℕ) → Right n fixed → Right (n + 1) (set fixed (203 - n) (bit_xor (get_or fixed (203 - n) 0) (get_or fault n 0)))
  right_on n l fixed r =
      let q : 203 - (203 - n) ≡ n = omega arith in
      let here : bit_xor (get_or fixed (203 - n) 0) (get_or fault n 0) ≡ get_or c (203 - n) 0 =
      ap₂ bit_xor (r.left (203 - n) (omega arith) (omega arith)) (ap (λ z. get_or fault z 0) (sym q) ∙ error_at word c long bytes code (203 - n) (omega arith))
      ∙ sym (xor_assoc (get_or word (203 - n) 0) (get_or word (203 - n) 0) (get_or c (203 - n) 0)) ∙ ap (λ z. bit_xor z (get_or c (203 - n) 0)) (xor_self (get_or word (203 - n) 0)) in
      record {
        size = length-set fixed (203 - n) _ ∙ r.size;
        done = λ j m k. go j m k here (cases_eq j (203 - n));
        left = λ j m k. let w : j ≢ 203 - n = omega arith in get_or-set_other fixed (203 - n) j _ 0 w ∙ r.left j m (omega arith);
      }
    where
      v : ℕ
      v = bit_xor (get_or fixed (203 - n) 0) (get_or fault n 0)

      go : (j : ℕ) → j < 204 → 203 - j < n + 1 → v ≡ get_or c (203 - n) 0 → (j ≡ 203 - n) ⊎ (j ≡ 203 - n → ⊥) → get_or (set fixed (203 - n) v) j 0 ≡ get_or c j 0
      go j m k h (inl e) = ap (λ z. get_or (set fixed (203 - n) v) z 0) e ∙ get_or-set_same fixed (203 - n) v 0 (omega (arith, r.size)) ∙ h ∙ ap (λ z. get_or c z 0) (sym e)
      go j m k h (inr e) = get_or-set_other fixed (203 - n) j v 0 e ∙ r.done j m (omega (arith, e))

  right_over : (n : ℕ) → n < 204 → (fixed : List ℕ) → get_or fault n 0 ≡ 0 → Right n fixed → Right (n + 1) fixed
  right_over n l fixed z r = record {
    size = r.size;
    done = λ j m k. go j m k (cases_lt (203 - j) n);
    left = λ j m k. r.left j m (omega arith);
  }
    where
      go : (j : ℕ) → j < 204 → 203 - j < n + 1 → (203 - j < n) ⊎ (n ≤ 203 - j) → get_or fixed j 0 ≡ get_or c j 0
      go j m k (inl h) = r.done j m h
      go j m k (inr h) =
          let q : 203 - j ≡ n = omega arith in
          r.left j m h ∙ xor_equal (get_or word j 0) (get_or c j 0) (sym (error_at word c long bytes code j m) ∙ ap (λ y. get_or fault y 0) q ∙ z)

  corrected_push : (w ps vs : List ℕ) (q v : ℕ) → length vs ≡ length ps → corrected w (ps ++ q ∷ []) (vs ++ v ∷ []) ≡ set (corrected w ps vs) (203 - q) (bit_xor (get_or (corrected w ps vs) (203 - q) 0) v)
  corrected_push w [] [] q v l = refl
  corrected_push w [] (u ∷ vs) q v l = absurd (omega arith)
  corrected_push w (o ∷ ps) [] q v l = absurd (omega arith)
  corrected_push w (o ∷ ps) (u ∷ vs) q v l = corrected_push (set w (203 - o) (bit_xor (get_or w (203 - o) 0) u)) ps vs q v (omega arith)

  right_all : (n : ℕ) → n ≤ 204 → Right n (corrected word (chosen (is_root p) n) (map (at fault) (chosen (is_root p) n)))
  unfolding chosen at
  right_all zero l = record { size = long; done = λ j m k. absurd (omega arith); left = λ j m k. refl }
  right_all (suc n) l = subst (λ z. Right z (corrected word (xs ++ cond (is_root p n) (n ∷ []) []) (map (at fault) (xs ++ cond (is_root p n) (n ∷ []) [])))) (add-one n) (go (is_root p n) refl (right_all n (omega arith)))
    where
      xs : List ℕ
      xs = chosen (is_root p) n

      go : (b : Bool) → is_root p n ≡ b → Right n (corrected word xs (map (at fault) xs)) → Right (n + 1) (corrected word (xs ++ cond b (n ∷ []) []) (map (at fault) (xs ++ cond b (n ∷ []) [])))
      go true e r =
          subst (Right (n + 1)) (sym (ap (corrected word (xs ++ n ∷ [])) (map-append (at fault) xs (n ∷ [])) ∙ corrected_push word xs (map (at fault) xs) n (get_or fault n 0) (length-map xs (at fault))))
          (right_on n (omega arith) (corrected word xs (map (at fault) xs)) r)
      go false e r =
          subst (λ z. Right (n + 1) (corrected word z (map (at fault) z))) (sym (append-nil xs)) (right_over n (omega arith) (corrected word xs (map (at fault) xs)) (none (cases_eq (get_or fault n 0) 0)) r)
        where
          none : (get_or fault n 0 ≡ 0) ⊎ (get_or fault n 0 ≡ 0 → ⊥) → get_or fault n 0 ≡ 0
          none (inl y) = y
          none (inr y) = absurd (true≢false (sym (error_root n y) ∙ e))

  -- the corrected word is the codeword
  pub corrected_is : corrected word (chosen (is_root p) 204) error_values ≡ c
  unfolding error_values
  corrected_is =
      let r = right_all 204 (lit≤ tt) in
      ext_get_or 0 _ c (r.size ∙ sym code.long) (λ j m. r.done j (omega (arith, m, r.size)) (omega arith))

pub chosen_below : (n : ℕ) (t : ℕ → Bool) → AllByRecursion (λ k. k < n) (chosen t n)
chosen_below n t = all_below n t

pub bytes_of : (xs : List ℕ) → ((i : ℕ) → get_or xs i 0 < 256) → AreBytes xs
bytes_of [] h = tt
bytes_of (x ∷ xs) h = (h 0, bytes_of xs (λ i. h (suc i)))

-- the word after solving and correcting is the codeword
pub codeword_again : (word c values p xs moments solved places fixed : List ℕ) → length word ≡ 204 → ((i : ℕ) → get_or word i 0 < 256) → AreSyndromes word values
    → places ≡ chosen (is_root p) 204 → xs ≡ map power places → length (chosen (is_root p) 204) ≤ 16 → ((i : ℕ) → i < length places → slice_index moments i ≡ slice_index values i)
    → Solves xs moments solved → fixed ≡ corrected word places solved → IsCodeword c → DifferAtRoots p word c → fixed ≡ c
codeword_again word c values p xs moments solved places fixed l by found e f few m s r code differ =
    let b = bytes_of word by in
    let v : solved ≡ error_values word c values p l b code found few differ =
    solved_error word c values p l b code found few differ moments solved (λ i k. m i (omega (arith, k, ap length e))) (subst (λ z. Solves z moments solved) (f ∙ ap (map power) e) s) in
    r ∙ ap₂ (corrected word) e v ∙ corrected_is word c values p l b code found few differ

-- in the terms of the code
pub repaired : (word c values p found_powers solved at fixed zeros : List ℕ) (count : ℕ) → length word ≡ 204 → ((i : ℕ) → get_or word i 0 < 256) → AreSyndromes word values → length (chosen (is_root p) 204) ≤ 16
    → take count at ≡ chosen (is_root p) 204 → take count found_powers ≡ map power (take count at)
    → length solved ≡ count → Solves (take count found_powers) (take count values) solved → fixed ≡ corrected word (take count at) (take count (solved ++ zeros))
    → IsCodeword c → DifferAtRoots p word c → fixed ≡ c
repaired word c values p found_powers solved at fixed zeros count l by found few e f ls s r code differ =
    codeword_again word c values p (take count found_powers) (take count values) solved (take count at) fixed l by found e f few
    (λ i q. get_or-take count values i 0 (omega (arith, q, length-take count at)))
    s (r ∙ ap (corrected word (take count at)) (take_at solved zeros count ls)) code differ

-- ---- the whole

pub clean_code : (word slice values : List ℕ) → length word ≡ 204 → ((i : ℕ) → get_or word i 0 < 256) → slice ≡ word → ((i : ℕ) → i < 16 → slice_index values i ≡ value_at (power i) (reverse slice)) → ((i : ℕ) → i < 16 → slice_index values i ≡ 0) → IsCodeword word
clean_code word slice values l by e f z = codeword_from_roots word l (bytes_of word by) (λ i m. ap (λ w. value_at (power i) (reverse w)) (sym e) ∙ sym (f i m) ∙ z i m)

pub code_clean : (word slice values : List ℕ) → IsCodeword word → slice ≡ word → ((i : ℕ) → i < 16 → slice_index values i ≡ value_at (power i) (reverse slice)) → (i : ℕ) → i < 16 → slice_index values i ≡ 0
code_clean word slice values h e f i m = f i m ∙ ap (λ w. value_at (power i) (reverse w)) e ∙ codeword_root word i h m

-- no codeword is close if the candidate is rejected
pub none_near : (word fixed : List ℕ) → length word ≡ 204 → length fixed ≡ 204 → ((c : List ℕ) → IsCodeword c → distance word c ≤ 8 → fixed ≡ c) → (IsCodeword word → ⊥)
    → (distance word fixed ≡ 0) ⊎ ((8 < distance word fixed) ⊎ (IsCodeword fixed → ⊥)) → (c : List ℕ) → IsCodeword c → 8 < distance word c
none_near word fixed l k near bad why c h = go (cases_lt 8 (distance word c))
  where
    go : (8 < distance word c) ⊎ (distance word c ≤ 8) → 8 < distance word c
    go (inl m) = m
    go (inr m) = absurd (no_way (near c h m) why)
      where
        no_way : fixed ≡ c → (distance word fixed ≡ 0) ⊎ ((8 < distance word fixed) ⊎ (IsCodeword fixed → ⊥)) → ⊥
        no_way e (inl z) = bad (subst IsCodeword (sym (same_word word fixed (l ∙ sym k) z ∙ e)) h)
        no_way e (inr (inl z)) = absurd (omega (arith, z, m, ap (distance word) e))
        no_way e (inr (inr z)) = z (subst IsCodeword (sym e) h)
