-- The tables hold the powers and the logarithms of the field's elements.
use Rattle.std.proofs.Common.{◌≡◌, ◌≢◌, ℕ, ◌+◌, ◌-◌, ◌<◌, ◌≤◌, ◌⊎◌, inl, inr, Bool, true, false, ◌&&◌, ◌||◌, refl, sym, ap, ap₂, ◌∙◌, subst, arith, eqb, ltb, get_or}
use Rattle.std.proofs.lemmas.Bool.{eqb-true, eqb-false, and_parts, or_cases, ltb-true}
use Rattle.gf256.specs.Field.{mul, power}
use Rattle.gf256.proofs.Steps.{shifted, shift_by, turned, all_below_at}
use Rattle.gf256.proofs.Product.{power_is_turned}
use Rattle.gf256.proofs.FieldLaws.{mul_zero_left, mul_zero_right, power_add}
use Rattle.gf256.specs.declared.tables.TheConstants.{POWERS, LOGARITHMS}

powers_table : (k : ℕ) → k < 510 → get_or POWERS k 0 ≡ turned k
unfolding shift_by shifted
powers_table k l = eqb-true _ _ (all_below_at (λ k. eqb (get_or POWERS k 0) (turned k)) 510 k refl l)

pub powers_are : (k : ℕ) → k < 510 → get_or POWERS k 0 ≡ power k
powers_are k l = powers_table k l ∙ sym (power_is_turned k)

zeros_table : (k : ℕ) → k < 511 → get_or POWERS (510 + k) 0 ≡ 0
zeros_table k l = eqb-true _ _ (all_below_at (λ k. eqb (get_or POWERS (510 + k) 0) 0) 511 k refl l)

zeros_from : (k : ℕ) → 510 ≤ k → k < 1021 → get_or POWERS k 0 ≡ 0
zeros_from k l m = let e : 510 + (k - 510) ≡ k = omega arith in ap (λ n. get_or POWERS n 0) (sym e) ∙ zeros_table (k - 510) (omega arith)

abbrev is_logarithm : ℕ → Bool
is_logarithm a = ltb (get_or LOGARITHMS a 0) 255 && eqb (get_or POWERS (get_or LOGARITHMS a 0) 0) a

logarithms_table : (a : ℕ) → a < 256 → (eqb a 0 || is_logarithm a) ≡ true
logarithms_table a l = all_below_at (λ a. eqb a 0 || is_logarithm a) 256 a refl l

some_logarithm : (a : ℕ) → a < 256 → a ≢ 0 → is_logarithm a ≡ true
some_logarithm a l z = go (or_cases _ _ (logarithms_table a l))
  where
    go : (eqb a 0 ≡ true) ⊎ (is_logarithm a ≡ true) → is_logarithm a ≡ true
    go (inl e) = absurd (z (eqb-true a 0 e))
    go (inr e) = e

pub logarithm_below : (a : ℕ) → a < 256 → a ≢ 0 → get_or LOGARITHMS a 0 < 255
logarithm_below a l z = ltb-true _ _ (and_parts _ _ (some_logarithm a l z)).0

pub logarithm_is : (a : ℕ) → a < 256 → a ≢ 0 → power (get_or LOGARITHMS a 0) ≡ a
logarithm_is a l z =
    sym (powers_are (get_or LOGARITHMS a 0) (omega (arith, logarithm_below a l z)))
    ∙ eqb-true _ _ (and_parts _ _ (some_logarithm a l z)).1

pub logarithm_of_zero : get_or LOGARITHMS 0 0 ≡ 510
logarithm_of_zero = refl

pub logarithm_within : (a : ℕ) → a < 256 → get_or LOGARITHMS a 0 ≤ 510
logarithm_within a l = go (eqb a 0) refl
  where
    go : (t : Bool) → eqb a 0 ≡ t → get_or LOGARITHMS a 0 ≤ 510
    go true e = subst (λ z. get_or LOGARITHMS z 0 ≤ 510) (sym (eqb-true a 0 e)) (omega (arith, logarithm_of_zero))
    go false e = omega (arith, logarithm_below a l (eqb-false a 0 e))

pub product_is : (a b : ℕ) → a < 256 → b < 256 → get_or POWERS (get_or LOGARITHMS a 0 + get_or LOGARITHMS b 0) 0 ≡ mul a b
product_is a b l m = go (eqb a 0) refl (eqb b 0) refl
  where
    go : (s : Bool) → eqb a 0 ≡ s → (t : Bool) → eqb b 0 ≡ t → get_or POWERS (get_or LOGARITHMS a 0 + get_or LOGARITHMS b 0) 0 ≡ mul a b
    go true e t f =
        zeros_from (get_or LOGARITHMS a 0 + get_or LOGARITHMS b 0)
        (omega (arith, ap (λ z. get_or LOGARITHMS z 0) (eqb-true a 0 e), logarithm_of_zero))
        (omega (arith, logarithm_within a l, logarithm_within b m))
        ∙ sym (mul_zero_left b) ∙ ap (λ z. mul z b) (sym (eqb-true a 0 e))
    go false e true f =
        zeros_from (get_or LOGARITHMS a 0 + get_or LOGARITHMS b 0)
        (omega (arith, ap (λ z. get_or LOGARITHMS z 0) (eqb-true b 0 f), logarithm_of_zero))
        (omega (arith, logarithm_within a l, logarithm_within b m))
        ∙ sym (mul_zero_right a) ∙ ap (mul a) (sym (eqb-true b 0 f))
    go false e false f =
        powers_are (get_or LOGARITHMS a 0 + get_or LOGARITHMS b 0) (omega (arith, logarithm_below a l (eqb-false a 0 e), logarithm_below b m (eqb-false b 0 f)))
        ∙ power_add (get_or LOGARITHMS a 0) (get_or LOGARITHMS b 0)
        ∙ ap₂ mul (logarithm_is a l (eqb-false a 0 e)) (logarithm_is b m (eqb-false b 0 f))

back_table : (i : ℕ) → i < 255 → get_or LOGARITHMS (get_or POWERS i 0) 0 ≡ i
back_table i l = eqb-true _ _ (all_below_at (λ i. eqb (get_or LOGARITHMS (get_or POWERS i 0) 0) i) 255 i refl l)

pub powers_differ : (i j : ℕ) → i < 255 → j < 255 → power i ≡ power j → i ≡ j
powers_differ i j l m e =
    sym (back_table i l) ∙ ap (λ z. get_or LOGARITHMS z 0) (powers_are i (omega arith) ∙ e ∙ sym (powers_are j (omega arith))) ∙ back_table j m

pub product_power : (a e : ℕ) → a < 256 → e < 256 → get_or POWERS (get_or LOGARITHMS a 0 + e) 0 ≡ mul a (power e)
product_power a e l m = go (eqb a 0) refl
  where
    go : (s : Bool) → eqb a 0 ≡ s → get_or POWERS (get_or LOGARITHMS a 0 + e) 0 ≡ mul a (power e)
    go true q =
        zeros_from (get_or LOGARITHMS a 0 + e) (omega (arith, ap (λ z. get_or LOGARITHMS z 0) (eqb-true a 0 q), logarithm_of_zero)) (omega (arith, logarithm_within a l))
        ∙ sym (mul_zero_left (power e)) ∙ ap (λ z. mul z (power e)) (sym (eqb-true a 0 q))
    go false q =
        powers_are (get_or LOGARITHMS a 0 + e) (omega (arith, logarithm_below a l (eqb-false a 0 q)))
        ∙ power_add (get_or LOGARITHMS a 0) e ∙ ap (λ z. mul z (power e)) (logarithm_is a l (eqb-false a 0 q))
