-- The step over the lanes in each phase.
use Rattle.std.proofs.Common.{◌≡◌, ℕ, zero, suc, ◌+◌, ◌-◌, ◌*◌, ◌/◌, ◌%◌, ◌^◌, ◌<◌, ◌≤◌, min, Bool, true, false, List, [], ◌∷◌, ◌++◌, map, length, get_or, ◌⊎◌, inl, inr, refl, sym, ap, ap₂, ◌∙◌, subst, arith, mod-lt, lit<, Fits, w16}
use Rattle.std.proofs.lemmas.Bool.{cases_lt}
use Rattle.std.proofs.lemmas.Grind.{same_number_lists}
use Rattle.std.proofs.lemmas.List.{get_or_append_left, get_or-append_right}
use Rattle.std.specs.Prelude.{slice_index}
use Rattle.std.specs.Bool.{nat_lt}
use Rattle.std.specs.List.{range_with_len}
use Rattle.std.specs.Simd.Lanes.{Each1}
use Rattle.spec_words.specs.Bits.{is_set}
use Rattle.code_paths.specs.declared.costs.CostPair.{CostPair}
use Rattle.acs_plain.specs.Steps.{IsStep}
use Rattle.acs_lanes.specs.Lanes.{cost_from}
use Rattle.acs_lanes.specs.Lanes16.{AreLanes, AreLesser, AreLowered, all_with, joined}
use Rattle.acs_lanes.proofs.Highs.{lowered_same}
use Rattle.acs_lanes.proofs.Shifts.{word_step}
use Rattle.acs_lanes.specs.Phases.{AreCostsIn, AreTurnedIn, IsLow, IsWordStep, laid_in, lower_eights, lower_fours, next, place_in, upper_eights, upper_fours, way_in}
use Rattle.acs_lanes.proofs.Grows.{lesser}
use Rattle.acs_lanes.proofs.LaneLaws.{from_low, from_small}
use Rattle.acs_lanes.proofs.Laid.{at_range}
use Rattle.acs_lanes.proofs.PhaseTables.{at_place_in, even_place, laid_in_at, lowered_in, odd_place, place_in_small, state_in, state_in_small, way_in_small}
use Rattle.acs_lanes.proofs.Quarters.{both_lanes, first_at, last_at}
use Rattle.acs_lanes.proofs.Turns.{both_costs, is_odd}

pub next_small : (p : ℕ) → next p < 6
next_small p = mod-lt (p + 1) (lit< tt)

-- ---- lanes that were turned

abbrev entries : List ℕ → List ℕ
entries xs = map (λ k. get_or xs k 0) (range_with_len 0 16)

entries_same : (xs : List ℕ) → length xs ≡ 16 → entries xs ≡ xs
entries_same xs e = same_number_lists (entries xs) xs (sym e) (λ k l. at_range (λ k. get_or xs k 0) 16 k refl l)

abbrev ways : ℕ → List ℕ → List ℕ
ways p xs = map (λ k. get_or xs (way_in p k) 0) (range_with_len 0 32)

turned_by : (p : ℕ) → p < 6 → (lf ll hf hl costs : List ℕ) → costs ≡ ways p (lf ++ ll) ++ ways p (hf ++ hl) → AreTurnedIn p lf ll hf hl costs
turned_by p in6 lf ll hf hl costs e = record {
  low = λ k l. ap (λ z. get_or z k 0) e ∙ get_or_append_left (ways p (lf ++ ll)) (ways p (hf ++ hl)) 0 k l ∙ at_range (λ k. get_or (lf ++ ll) (way_in p k) 0) 32 k refl l;
  high = λ k l.
      let f : k + 32 - 32 ≡ k = omega arith in
      ap (λ z. get_or z (k + 32) 0) e ∙ get_or-append_right (ways p (lf ++ ll)) (ways p (hf ++ hl)) 32 (k + 32) 0 refl (omega arith) ∙ ap (λ j. get_or (ways p (hf ++ hl)) j 0) f
      ∙ at_range (λ k. get_or (hf ++ hl) (way_in p k) 0) 32 k refl l;
}

-- four vectors of sixteen lanes are those of their entries
by_entries : (P : List ℕ → List ℕ → List ℕ → List ℕ → Type 0) → ((a b c d : List ℕ) → P (entries a) (entries b) (entries c) (entries d)) → (a b c d : List ℕ) → length a ≡ 16 → length b ≡ 16 → length c ≡ 16 → length d ≡ 16 → P a b c d
by_entries P h a b c d la lb lc ld =
    subst (λ z. P z b c d) (entries_same a la) (subst (λ z. P (entries a) z c d) (entries_same b lb) (subst (λ z. P (entries a) (entries b) z d) (entries_same c lc) (subst (λ z. P (entries a) (entries b) (entries c) z) (entries_same d ld) (h a b c d))))

laid_same : (p : ℕ) (a b c d e f g h : List ℕ) → a ≡ e → b ≡ f → c ≡ g → d ≡ h → laid_in p a b c d ≡ laid_in p e f g h
laid_same p a b c d e f g h ea eb ec ed = ap (λ z. laid_in p z b c d) ea ∙ ap (λ z. laid_in p e z c d) eb ∙ ap (λ z. laid_in p e f z d) ec ∙ ap (λ z. laid_in p e f g z) ed

abbrev fours_in : ℕ → List ℕ → List ℕ → List ℕ → List ℕ → Type 0
fours_in p lf ll hf hl = laid_in (next p) (lower_fours lf hf) (lower_fours ll hl) (upper_fours lf hf) (upper_fours ll hl) ≡ ways p (lf ++ ll) ++ ways p (hf ++ hl)

abbrev other_fours : List ℕ → List ℕ → List ℕ → List ℕ → Type 0
other_fours lf ll hf hl = laid_in 4 (lower_fours lf hf) (upper_fours lf hf) (lower_fours ll hl) (upper_fours ll hl) ≡ ways 3 (lf ++ ll) ++ ways 3 (hf ++ hl)

abbrev first_eights : List ℕ → List ℕ → List ℕ → List ℕ → Type 0
first_eights lf ll hf hl = laid_in 5 (lower_eights lf ll) (lower_eights hf hl) (upper_eights lf ll) (upper_eights hf hl) ≡ ways 4 (lf ++ ll) ++ ways 4 (hf ++ hl)

abbrev last_eights : List ℕ → List ℕ → List ℕ → List ℕ → Type 0
last_eights lf ll hf hl = laid_in 0 (lower_eights lf hf) (lower_eights ll hl) (upper_eights lf hf) (upper_eights ll hl) ≡ ways 5 (lf ++ ll) ++ ways 5 (hf ++ hl)

module _ (lf ll hf hl : List ℕ) (llf : length lf ≡ 16) (lll : length ll ≡ 16) (lhf : length hf ≡ 16) (lhl : length hl ≡ 16) where
  pub turned_fours : (p : ℕ) → p < 3 → (a b c d : List ℕ) → a ≡ lower_fours lf hf → b ≡ lower_fours ll hl → c ≡ upper_fours lf hf → d ≡ upper_fours ll hl → AreTurnedIn p lf ll hf hl (laid_in (next p) a b c d)
  turned_fours zero l a b c d ea eb ec ed = turned_by 0 (lit< tt) lf ll hf hl (laid_in 1 a b c d) (laid_same 1 a b c d _ _ _ _ ea eb ec ed ∙ by_entries (fours_in 0) (λ a b c d. refl) lf ll hf hl llf lll lhf lhl)
  turned_fours (suc zero) l a b c d ea eb ec ed = turned_by 1 (lit< tt) lf ll hf hl (laid_in 2 a b c d) (laid_same 2 a b c d _ _ _ _ ea eb ec ed ∙ by_entries (fours_in 1) (λ a b c d. refl) lf ll hf hl llf lll lhf lhl)
  turned_fours (suc (suc zero)) l a b c d ea eb ec ed = turned_by 2 (lit< tt) lf ll hf hl (laid_in 3 a b c d) (laid_same 3 a b c d _ _ _ _ ea eb ec ed ∙ by_entries (fours_in 2) (λ a b c d. refl) lf ll hf hl llf lll lhf lhl)
  turned_fours (suc (suc (suc p))) l a b c d ea eb ec ed = absurd (omega arith)

  pub turned_across : (p : ℕ) → p ≡ 3 → (a b c d : List ℕ) → a ≡ lower_fours lf hf → b ≡ upper_fours lf hf → c ≡ lower_fours ll hl → d ≡ upper_fours ll hl → AreTurnedIn p lf ll hf hl (laid_in (next p) a b c d)
  turned_across p e a b c d ea eb ec ed =
      subst (λ p. AreTurnedIn p lf ll hf hl (laid_in (next p) a b c d)) (sym e)
      (turned_by 3 (lit< tt) lf ll hf hl (laid_in 4 a b c d) (laid_same 4 a b c d _ _ _ _ ea eb ec ed ∙ by_entries other_fours (λ a b c d. refl) lf ll hf hl llf lll lhf lhl))

  pub turned_eights : (p : ℕ) → p ≡ 4 → (a b c d : List ℕ) → a ≡ lower_eights lf ll → b ≡ lower_eights hf hl → c ≡ upper_eights lf ll → d ≡ upper_eights hf hl → AreTurnedIn p lf ll hf hl (laid_in (next p) a b c d)
  turned_eights p e a b c d ea eb ec ed =
      subst (λ p. AreTurnedIn p lf ll hf hl (laid_in (next p) a b c d)) (sym e)
      (turned_by 4 (lit< tt) lf ll hf hl (laid_in 5 a b c d) (laid_same 5 a b c d _ _ _ _ ea eb ec ed ∙ by_entries first_eights (λ a b c d. refl) lf ll hf hl llf lll lhf lhl))

  pub turned_back : (p : ℕ) → p ≡ 5 → (a b c d : List ℕ) → a ≡ lower_eights lf hf → b ≡ lower_eights ll hl → c ≡ upper_eights lf hf → d ≡ upper_eights ll hl → AreTurnedIn p lf ll hf hl (laid_in (next p) a b c d)
  turned_back p e a b c d ea eb ec ed =
      subst (λ p. AreTurnedIn p lf ll hf hl (laid_in (next p) a b c d)) (sym e)
      (turned_by 5 (lit< tt) lf ll hf hl (laid_in 0 a b c d) (laid_same 0 a b c d _ _ _ _ ea eb ec ed ∙ by_entries last_eights (λ a b c d. refl) lf ll hf hl llf lll lhf lhl))

-- ---- lanes that fit

below : (xs : List ℕ) → Each1 (Fits w16) xs → (k : ℕ) → get_or xs k 0 < 2 ^ 16
below [] h k = lit< tt
below (x ∷ xs) (f, h) zero = f.fits
below (x ∷ xs) (f, h) (suc k) = below xs h k

below_both : (xs ys : List ℕ) → Each1 (Fits w16) xs → Each1 (Fits w16) ys → (k : ℕ) → get_or (xs ++ ys) k 0 < 2 ^ 16
below_both [] ys h g k = below ys g k
below_both (x ∷ xs) ys (f, h) g zero = f.fits
below_both (x ∷ xs) ys (f, h) g (suc k) = below_both xs ys h g k

abbrev picked : List ℕ → List ℕ → (ℕ → ℕ) → List ℕ
picked x y f = map (λ k. get_or (x ++ y) (f k) 0) (range_with_len 0 16)

picked_below : (z x y : List ℕ) (f : ℕ → ℕ) → z ≡ picked x y f → Each1 (Fits w16) x → Each1 (Fits w16) y → (k : ℕ) → k < 16 → get_or z k 0 < 2 ^ 16
picked_below z x y f e h g k l = omega (arith, ap (λ z. get_or z k 0) e, at_range (λ k. get_or (x ++ y) (f k) 0) 16 k refl l, below_both x y h g (f k))

pub lower_fours_len : (z x y : List ℕ) → z ≡ lower_fours x y → length z ≡ 16
lower_fours_len z x y e = ap length e

pub upper_fours_len : (z x y : List ℕ) → z ≡ upper_fours x y → length z ≡ 16
upper_fours_len z x y e = ap length e

pub lower_eights_len : (z x y : List ℕ) → z ≡ lower_eights x y → length z ≡ 16
lower_eights_len z x y e = ap length e

pub upper_eights_len : (z x y : List ℕ) → z ≡ upper_eights x y → length z ≡ 16
upper_eights_len z x y e = ap length e

pub lower_fours_below : (z x y : List ℕ) → z ≡ lower_fours x y → Each1 (Fits w16) x → Each1 (Fits w16) y → (k : ℕ) → k < 16 → get_or z k 0 < 2 ^ 16
lower_fours_below z x y = picked_below z x y (λ k. k / 8 * 8 + k / 2 % 4 + 16 * (k % 2))

pub upper_fours_below : (z x y : List ℕ) → z ≡ upper_fours x y → Each1 (Fits w16) x → Each1 (Fits w16) y → (k : ℕ) → k < 16 → get_or z k 0 < 2 ^ 16
upper_fours_below z x y = picked_below z x y (λ k. k / 8 * 8 + 4 + k / 2 % 4 + 16 * (k % 2))

pub lower_eights_below : (z x y : List ℕ) → z ≡ lower_eights x y → Each1 (Fits w16) x → Each1 (Fits w16) y → (k : ℕ) → k < 16 → get_or z k 0 < 2 ^ 16
lower_eights_below z x y = picked_below z x y (λ k. k % 8 + 16 * (k / 8))

pub upper_eights_below : (z x y : List ℕ) → z ≡ upper_eights x y → Each1 (Fits w16) x → Each1 (Fits w16) y → (k : ℕ) → k < 16 → get_or z k 0 < 2 ^ 16
upper_eights_below z x y = picked_below z x y (λ k. 8 + k % 8 + 16 * (k / 8))

pub lanes_fit : (a b c d : List ℕ) → length a ≡ 16 → length b ≡ 16 → length c ≡ 16 → length d ≡ 16 → ((k : ℕ) → k < 16 → get_or a k 0 < 2 ^ 16) → ((k : ℕ) → k < 16 → get_or b k 0 < 2 ^ 16) → ((k : ℕ) → k < 16 → get_or c k 0 < 2 ^ 16)
    → ((k : ℕ) → k < 16 → get_or d k 0 < 2 ^ 16) → AreLanes a b c d
lanes_fit a b c d la lb lc ld fa fb fc fd = record { a_len = la; b_len = lb; c_len = lc; d_len = ld; fits = both_lanes (λ x y. x < 2 ^ 16) a b c d a b c d la lb lc ld la lb lc ld fa fb fc fd }

-- ---- the step

module _ (p : ℕ) (in6 : p < 6) (pair : CostPair) (oa ob oc od zf of zl ol lf ll hf hl lfm llm hfm hlm new : List ℕ) (word : ℕ) (o : AreLanes oa ob oc od) (s : AreCostsIn p pair zf of zl ol) (t : AreTurnedIn p lf ll hf hl new)
    (plf : AreLesser oa zf oc of lf lfm) (pll : AreLesser ob zl od ol ll llm) (phf : AreLesser oa of oc zf hf hfm) (phl : AreLesser ob ol od zl hl hlm) where
  even : (k : ℕ) → k < 32 → slice_index (oa ++ ob) (way_in p k) ≡ slice_index (laid_in p oa ob oc od) (2 * k)
  even k l = sym (laid_in_at p in6 oa ob oc od (2 * k) (omega arith) ∙ ap (slice_index (joined oa ob oc od)) (even_place p k) ∙ first_at oa ob oc od o.a_len o.b_len o.c_len o.d_len (way_in p k) (way_in_small p in6 k l))

  odd : (k : ℕ) → k < 32 → slice_index (oc ++ od) (way_in p k) ≡ slice_index (laid_in p oa ob oc od) (2 * k + 1)
  odd k l = sym (laid_in_at p in6 oa ob oc od (2 * k + 1) (omega arith) ∙ ap (slice_index (joined oa ob oc od)) (odd_place p k) ∙ last_at oa ob oc od o.a_len o.b_len o.c_len o.d_len (way_in p k) (way_in_small p in6 k l))

  pub word_step_in : ((k : ℕ) → k < 32 → is_set word k ≡ is_odd oa ob oc od zf zl of ol lf ll lfm llm o.a_len o.c_len s.zero_first_len s.one_first_len plf pll (way_in p k))
      → ((k : ℕ) → k < 32 → is_set word (k + 32) ≡ is_odd oa ob oc od of ol zf zl hf hl hfm hlm o.a_len o.c_len s.one_first_len s.zero_first_len phf phl (way_in p k)) → IsWordStep pair (laid_in p oa ob oc od) new word
  word_step_in f g = record {
    low_cost = λ k l. t.low k l ∙ both_costs oa ob oc od zf zl of ol lf ll lfm llm o.a_len o.c_len s.zero_first_len s.one_first_len plf pll (way_in p k) (way_in_small p in6 k l)
        ∙ ap₂ min (ap₂ (λ x y. x + y) (even k l) (s.even_zero k l).is) (ap₂ (λ x y. x + y) (odd k l) (s.odd_zero k l).is);
    low_odd = λ k l. f k l ∙ ap₂ nat_lt (ap₂ (λ x y. x + y) (odd k l) (s.odd_zero k l).is) (ap₂ (λ x y. x + y) (even k l) (s.even_zero k l).is);
    high_cost = λ k l. t.high k l ∙ both_costs oa ob oc od of ol zf zl hf hl hfm hlm o.a_len o.c_len s.one_first_len s.zero_first_len phf phl (way_in p k) (way_in_small p in6 k l)
        ∙ ap₂ min (ap₂ (λ x y. x + y) (even k l) (s.even_one k l).is) (ap₂ (λ x y. x + y) (odd k l) (s.odd_one k l).is);
    high_odd = λ k l. g k l ∙ ap₂ nat_lt (ap₂ (λ x y. x + y) (odd k l) (s.odd_one k l).is) (ap₂ (λ x y. x + y) (even k l) (s.even_one k l).is);
  }

-- ---- what a step adds at most

module _ (p : ℕ) (in6 : p < 6) (a b c d e f g h : List ℕ) (pair : CostPair) (word most cost : ℕ) (s : IsWordStep pair (laid_in p a b c d) (laid_in (next p) e f g h) word) (few : (n : ℕ) → n < 64 → slice_index (joined a b c d) n ≤ most)
    (small : (parity : ℕ) (input : Bool) (k : ℕ) → cost_from pair parity input k ≤ cost) where
  before : (n : ℕ) → n < 64 → slice_index (laid_in p a b c d) n ≤ most
  before n l = omega (arith, laid_in_at p in6 a b c d n l, few (place_in p n) (place_in_small p in6 n l))

  pub grown_by : (q : ℕ) → q < 64 → slice_index (joined e f g h) q ≤ most + cost
  grown_by q l = each (cases_lt (state_in (next p) q) 32)
    where
      each : (state_in (next p) q < 32) ⊎ (32 ≤ state_in (next p) q) → slice_index (joined e f g h) q ≤ most + cost
      each (inl m) =
          let k = state_in (next p) q in
          omega (arith, at_place_in (next p) (next_small p) e f g h q l, lesser _ _ _ _ most cost (s.low_cost k m) (before (2 * k) (omega (arith, m))) (small 0 false k))
      each (inr m) =
          let k = state_in (next p) q - 32 in
          let n : k < 32 = omega (arith, state_in_small (next p) (next_small p) q l, m) in
          let there : k + 32 ≡ state_in (next p) q = omega (arith, m) in
          omega (arith, at_place_in (next p) (next_small p) e f g h q l, ap (λ n. get_or (laid_in (next p) e f g h) n 0) there, lesser _ _ _ _ most cost (s.high_cost k n) (before (2 * k) (omega (arith, n))) (small 0 true k))

pub grown_in : (p : ℕ) → p < 6 → (a b c d e f g h : List ℕ) (pair : CostPair) (word most : ℕ) → IsWordStep pair (laid_in p a b c d) (laid_in (next p) e f g h) word → ((n : ℕ) → n < 64 → slice_index (joined a b c d) n ≤ most) → (q : ℕ) → q < 64 → slice_index (joined e f g h) q ≤ most + 8190
grown_in p in6 a b c d e f g h pair word most s few = grown_by p in6 a b c d e f g h pair word most 8190 s few (from_small pair)

pub grown_low : (p : ℕ) → p < 6 → (a b c d e f g h : List ℕ) (pair : CostPair) (word most : ℕ) → IsWordStep pair (laid_in p a b c d) (laid_in (next p) e f g h) word → ((n : ℕ) → n < 64 → slice_index (joined a b c d) n ≤ most) → IsLow pair → (q : ℕ) → q < 64 → slice_index (joined e f g h) q ≤ most + 4095
grown_low p in6 a b c d e f g h pair word most s few low = grown_by p in6 a b c d e f g h pair word most 4095 s few (from_low pair low)

-- ---- steps in a row

pub first_step : (p : ℕ) → p < 6 → (a b c d e f g h i j k l : List ℕ) (x : CostPair) (v : ℕ) → AreLowered (joined a b c d) (joined e f g h) → IsWordStep x (laid_in p e f g h) (laid_in (next p) i j k l) v
    → IsStep (all_with (laid_in p a b c d)) x (all_with (laid_in (next p) i j k l)) v
first_step p in6 a b c d e f g h i j k l x v r s = word_step x (laid_in p a b c d) (laid_in p e f g h) (laid_in (next p) i j k l) v (lowered_in p in6 a b c d e f g h r) s

pub second_step : (p : ℕ) → p < 5 → (a b c d e f g h : List ℕ) (y : CostPair) (w : ℕ) → ((n : ℕ) → n < 64 → slice_index (joined a b c d) n ≤ 57345) → IsWordStep y (laid_in (p + 1) a b c d) (laid_in (next (p + 1)) e f g h) w
    → IsStep (all_with (laid_in (next p) a b c d)) y (all_with (laid_in (next (p + 1)) e f g h)) w
second_step p in5 a b c d e f g h y w fit s =
    let q : p + 1 ≡ next p = omega (arith, in5) in
    word_step y (laid_in (next p) a b c d) (laid_in (next p) a b c d) (laid_in (next (p + 1)) e f g h) w (lowered_in (next p) (next_small p) a b c d a b c d (lowered_same (joined a b c d) fit))
    (subst (λ q. IsWordStep y (laid_in q a b c d) (laid_in (next (p + 1)) e f g h) w) q s)

-- lanes that were lowered are no higher
pub no_higher : (old new : List ℕ) (most : ℕ) → AreLowered old new → ((n : ℕ) → n < 64 → slice_index old n ≤ most) → (n : ℕ) → n < 64 → slice_index new n ≤ most
no_higher old new most r f n l = omega (arith, r.is n l, f n l)
