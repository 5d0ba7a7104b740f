-- Words with 0 in erased positions.
use Rattle.std.proofs.Common.{◌≡◌, ℕ, not, ◌||◌, add-zero, get_or-set_same, zero, suc, ◌+◌, ◌-◌, ◌<◌, ◌≤◌, ◌⊎◌, inl, inr, Bool, true, false, cond, eqb, List, [], ◌∷◌, reverse, length, get_or, set, map, refl, sym, ap, ap₂, ◌∙◌, arith, length-set, get_or-set_other}
use Rattle.std.specs.Prelude.{bit_xor, count_by}
use Rattle.std.specs.List.{list_any, range_with_len}
use Rattle.std.proofs.lemmas.Bool.{cases_eq, eqb-true, eqb-false}
use Rattle.std.proofs.lemmas.List.{get_or-reverse}
use Rattle.std.proofs.lemmas.List.Sums.{sum_by-cons}
use Rattle.gf256.proofs.FieldLaws.{power_small}
use Rattle.rs204.specs.Codes.{plus, AreBytes, distance}
use Rattle.rs204.proofs.Polynomials.{Among}
use Rattle.rs204.proofs.CodeSteps.{get_or-plus}
use Rattle.rs_erasure.specs.Outside.{differs_outside, distance_outside}
use Rattle.rs_erasure.specs.Locating.{blanked, place_power}

pub length-blanked : (es w : List ℕ) → length (blanked es w) ≡ length w
length-blanked [] w = refl
length-blanked (e ∷ es) w = length-blanked es (set w e 0) ∙ length-set w e 0

-- a position is erased, or unchanged
abbrev pub Kept : List ℕ → List ℕ → List ℕ → ℕ → Type 0
Kept es v w i = (get_or (blanked es v) i 0 ≡ get_or v i 0) × (get_or (blanked es w) i 0 ≡ get_or w i 0)

pub blanked_at : (es v w : List ℕ) (i : ℕ) → Among i es ⊎ Kept es v w i
blanked_at [] v w i = inr (refl, refl)
blanked_at (e ∷ es) v w i = go (cases_eq i e) (blanked_at es (set v e 0) (set w e 0) i)
  where
    go : (i ≡ e) ⊎ (i ≡ e → ⊥) → Among i es ⊎ Kept es (set v e 0) (set w e 0) i → Among i (e ∷ es) ⊎ Kept (e ∷ es) v w i
    go (inl q) k = inl (inl q)
    go (inr q) (inl a) = inl (inr a)
    go (inr q) (inr k) = inr (k.0 ∙ get_or-set_other v e i 0 0 q, k.1 ∙ get_or-set_other w e i 0 0 q)

pub powers_among : (es : List ℕ) (i : ℕ) → Among i es → Among (place_power i) (map place_power es)
powers_among [] i a = absurd a
powers_among (e ∷ es) i (inl q) = inl (ap place_power q)
powers_among (e ∷ es) i (inr a) = inr (powers_among es i a)

pub place_bytes : (es : List ℕ) → AreBytes (map place_power es)
place_bytes [] = tt
place_bytes (e ∷ es) = (power_small (203 - e), place_bytes es)

-- the difference of two words, from the end
pub difference_at : (v w : List ℕ) (k : ℕ) → length v ≡ 204 → length w ≡ 204 → k < 204 → get_or (plus (reverse v) (reverse w)) k 0 ≡ bit_xor (get_or v (203 - k) 0) (get_or w (203 - k) 0)
difference_at v w k l m n =
    get_or-plus (reverse v) (reverse w) k
    ∙ ap₂ bit_xor
    (get_or-reverse v k 0 (omega (arith, l)) ∙ ap (λ z. get_or v z 0) (turned v l))
    (get_or-reverse w k 0 (omega (arith, m)) ∙ ap (λ z. get_or w z 0) (turned w m))
  where
    turned : (u : List ℕ) → length u ≡ 204 → length u - 1 - k ≡ 203 - k
    turned u e = omega (arith, e)

-- ---- distances

abbrev differs : Bool → ℕ
differs b = cond b 0 1

one_set : (v w : List ℕ) (e : ℕ) → length v ≡ length w → distance v w ≤ distance (set v e 0) (set w e 0) + 1
one_set [] w e l = omega arith
one_set (a ∷ v) [] e l = absurd (omega arith)
one_set (a ∷ v) (b ∷ w) zero l = omega (arith, one (eqb a b))
  where
    one : (t : Bool) → differs t ≤ 1
    one true = omega arith
    one false = omega arith
one_set (a ∷ v) (b ∷ w) (suc e) l = omega (arith, one_set v w e (omega arith))

pub distance_blanked : (es v w : List ℕ) → length v ≡ length w → distance v w ≤ distance (blanked es v) (blanked es w) + length es
distance_blanked [] v w l = omega arith
distance_blanked (e ∷ es) v w l =
    omega (arith, one_set v w e l, distance_blanked es (set v e 0) (set w e 0) (length-set v e 0 ∙ l ∙ sym (length-set w e 0)))

-- ---- the distance of blanked words, counted

-- a byte of a blanked word
blanked_is : (es v : List ℕ) (k : ℕ) → k < length v → get_or (blanked es v) k 0 ≡ cond (list_any (λ e. eqb e k) es) 0 (get_or v k 0)
blanked_is [] v k l = refl
blanked_is (e ∷ es) v k l = blanked_is es (set v e 0) k (omega (arith, length-set v e 0)) ∙ go (eqb e k) refl (list_any (λ e. eqb e k) es)
  where
    go : (s : Bool) → eqb e k ≡ s → (t : Bool) → cond t 0 (get_or (set v e 0) k 0) ≡ cond (s || t) 0 (get_or v k 0)
    go true q true = refl
    go true q false = ap (λ z. get_or (set v z 0) k 0) (eqb-true e k q) ∙ get_or-set_same v k 0 0 l
    go false q true = refl
    go false q false = get_or-set_other v e k 0 0 (λ h. eqb-false e k q (sym h))

blanked_differ : (es v w : List ℕ) (k : ℕ) → k < length v → k < length w → not (eqb (get_or (blanked es v) k 0) (get_or (blanked es w) k 0)) ≡ differs_outside es v w k
blanked_differ es v w k l m = ap₂ (λ a b. not (eqb a b)) (blanked_is es v k l) (blanked_is es w k m) ∙ go (list_any (λ e. eqb e k) es) (get_or v k 0) (get_or w k 0)
  where
    go : (t : Bool) (a b : ℕ) → not (eqb (cond t 0 a) (cond t 0 b)) ≡ not (t || eqb a b)
    go true a b = refl
    go false a b = refl

one_more : (t b : Bool) → t ≡ not b → differs b ≡ cond t 1 0
one_more t true e = ap (λ c. cond c 1 0) (sym e)
one_more t false e = ap (λ c. cond c 1 0) (sym e)

counted_from : (a : ℕ) (test : ℕ → Bool) (v w : List ℕ) → length v ≡ length w → ((k : ℕ) → k < length v → test (a + k) ≡ not (eqb (get_or v k 0) (get_or w k 0))) → distance v w ≡ count_by test (range_with_len a (length v))
counted_from a test [] w l h = refl
counted_from a test (x ∷ v) [] l h = absurd (omega arith)
counted_from a test (x ∷ v) (y ∷ w) l h =
    ap₂ (λ m n. m + n)
    (one_more (test a) (eqb x y) (ap test (sym (add-zero a)) ∙ h 0 (omega arith)))
    (counted_from (a + 1) test v w (omega arith) (λ k m. let e : a + 1 + k ≡ a + suc k = omega arith in ap test e ∙ h (suc k) (omega arith)))
    ∙ sym (sum_by-cons (λ k. cond (test k) 1 0) a (range_with_len (a + 1) (length v)))

pub counted : (es v w : List ℕ) → length v ≡ 204 → length w ≡ 204 → distance (blanked es v) (blanked es w) ≡ distance_outside es v w
unfolding distance_outside
counted es v w l m =
    let a : length (blanked es v) ≡ 204 = length-blanked es v ∙ l in
    let b : length (blanked es w) ≡ 204 = length-blanked es w ∙ m in
    counted_from 0 (differs_outside es v w) (blanked es v) (blanked es w) (a ∙ sym b)
    (λ k n. ap (differs_outside es v w) (zero_plus k) ∙ sym (blanked_differ es v w k (omega (arith, a, l)) (omega (arith, a, m))))
    ∙ ap (λ n. count_by (differs_outside es v w) (range_with_len 0 n)) a
  where
    zero_plus : (k : ℕ) → 0 + k ≡ k
    zero_plus k = omega arith
