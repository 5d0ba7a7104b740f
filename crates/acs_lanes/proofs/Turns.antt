-- The step over the lanes.
use Rattle.std.proofs.Common.{◌≡◌, ℕ, ◌+◌, ◌-◌, ◌*◌, ◌^◌, ◌<◌, ◌≤◌, min, Bool, cond, List, ◌++◌, map, length, get_or, ◌⊎◌, inl, inr, refl, sym, ap, ap₂, ◌∙◌, subst, arith}
use Rattle.std.proofs.lemmas.Bool.{cases_lt}
use Rattle.std.proofs.lemmas.List.{get_or_append_left, get_or-append_right}
use Rattle.std.specs.Prelude.{slice_index}
use Rattle.std.specs.Bool.{nat_lt}
use Rattle.std.specs.List.{range_with_len}
use Rattle.spec_words.specs.Bits.{is_set}
use Rattle.code_paths.specs.declared.costs.CostPair.{CostPair}
use Rattle.acs_lanes.specs.Lanes.{IsLaneStep}
use Rattle.acs_lanes.specs.Lanes16.{AddFits, AreLaidCosts, AreLanes, AreLesser, AreMarks, AreTurned, joined, laid, state_at, way}
use Rattle.acs_lanes.proofs.Laid.{at_range, at_place, laid_at, place_even, place_odd, state_small, way_small}
use Rattle.acs_lanes.proofs.Quarters.{a_at, b_at, c_at, d_at, first_at, last_at}

-- ---- two vectors

pub in_first : (x y : List ℕ) (k : ℕ) → length x ≡ 16 → k < 16 → get_or (x ++ y) k 0 ≡ get_or x k 0
in_first x y k e l = get_or_append_left x y 0 k (omega (arith, e))

pub in_last : (x y : List ℕ) (k : ℕ) → length x ≡ 16 → k < 16 → get_or (x ++ y) (16 + k) 0 ≡ get_or y k 0
in_last x y k e l = let f : 16 + k - 16 ≡ k = omega arith in get_or-append_right x y 16 (16 + k) 0 e (omega arith) ∙ ap (λ j. get_or y j 0) f

by_two : (P : ℕ → Type 0) → ((k : ℕ) → k < 16 → P k) → ((k : ℕ) → k < 16 → P (16 + k)) → (w : ℕ) → w < 32 → P w
by_two P p q w l = go (cases_lt w 16)
  where
    go : (w < 16) ⊎ (16 ≤ w) → P w
    go (inl a) = p w a
    go (inr a) = let e : 16 + (w - 16) ≡ w = omega arith in subst P e (q (w - 16) (omega arith))

-- ---- sums that fit

pub add_fits : (xs steps : List ℕ) → length xs ≡ 16 → length steps ≡ 16 → ((k : ℕ) → k < 16 → slice_index xs k ≤ 57345) → ((k : ℕ) → k < 16 → slice_index steps k ≤ 8190) → AddFits xs steps
add_fits xs steps l m f s = record { costs_len = l; steps_len = m; fits = λ k n. omega (arith, f k n, s k n) }

module _ (a b c d : List ℕ) (o : AreLanes a b c d) (f : (n : ℕ) → n < 64 → slice_index (joined a b c d) n ≤ 57345) where
  pub a_few : (k : ℕ) → k < 16 → slice_index a k ≤ 57345
  a_few k l = omega (arith, f k (omega arith), a_at a b c d o.a_len o.b_len o.c_len o.d_len k l)

  pub b_few : (k : ℕ) → k < 16 → slice_index b k ≤ 57345
  b_few k l = omega (arith, f (16 + k) (omega arith), b_at a b c d o.a_len o.b_len o.c_len o.d_len k l)

  pub c_few : (k : ℕ) → k < 16 → slice_index c k ≤ 57345
  c_few k l = omega (arith, f (32 + k) (omega arith), c_at a b c d o.a_len o.b_len o.c_len o.d_len k l)

  pub d_few : (k : ℕ) → k < 16 → slice_index d k ≤ 57345
  d_few k l = omega (arith, f (48 + k) (omega arith), d_at a b c d o.a_len o.b_len o.c_len o.d_len k l)

-- ---- the lesser sums of two and two vectors

module _ (e1 e2 o1 o2 z1 z2 n1 n2 t1 t2 m1 m2 : List ℕ) (le : length e1 ≡ 16) (lo : length o1 ≡ 16) (lz : length z1 ≡ 16) (ln : length n1 ≡ 16) (p : AreLesser e1 z1 o1 n1 t1 m1) (q : AreLesser e2 z2 o2 n2 t2 m2) where
  pub both_costs : (w : ℕ) → w < 32 → slice_index (t1 ++ t2) w ≡ min (slice_index (e1 ++ e2) w + slice_index (z1 ++ z2) w) (slice_index (o1 ++ o2) w + slice_index (n1 ++ n2) w)
  both_costs =
      by_two (λ w. slice_index (t1 ++ t2) w ≡ min (slice_index (e1 ++ e2) w + slice_index (z1 ++ z2) w) (slice_index (o1 ++ o2) w + slice_index (n1 ++ n2) w))
      (λ k l. in_first t1 t2 k p.costs_len l ∙ p.cost k l ∙ sym (ap₂ min (ap₂ (λ x y. x + y) (in_first e1 e2 k le l) (in_first z1 z2 k lz l)) (ap₂ (λ x y. x + y) (in_first o1 o2 k lo l) (in_first n1 n2 k ln l))))
      (λ k l. in_last t1 t2 k p.costs_len l ∙ q.cost k l ∙ sym (ap₂ min (ap₂ (λ x y. x + y) (in_last e1 e2 k le l) (in_last z1 z2 k lz l)) (ap₂ (λ x y. x + y) (in_last o1 o2 k lo l) (in_last n1 n2 k ln l))))

  abbrev pub is_odd : ℕ → Bool
  is_odd w = nat_lt (slice_index (o1 ++ o2) w + slice_index (n1 ++ n2) w) (slice_index (e1 ++ e2) w + slice_index (z1 ++ z2) w)

  pub both_marks : AreMarks m1 m2 is_odd
  both_marks = record {
    first_len = p.marks_len;
    last_len = q.marks_len;
    first_is = λ k l. p.marked k l ∙ ap (λ b. cond b 0 255) (sym (ap₂ nat_lt (ap₂ (λ x y. x + y) (in_first o1 o2 k lo l) (in_first n1 n2 k ln l)) (ap₂ (λ x y. x + y) (in_first e1 e2 k le l) (in_first z1 z2 k lz l))));
    last_is = λ k l. q.marked k l ∙ ap (λ b. cond b 0 255) (sym (ap₂ nat_lt (ap₂ (λ x y. x + y) (in_last o1 o2 k lo l) (in_last n1 n2 k ln l)) (ap₂ (λ x y. x + y) (in_last e1 e2 k le l) (in_last z1 z2 k lz l))));
  }

  pub both_fit : ((k : ℕ) → k < 16 → slice_index e1 k ≤ 57345) → ((k : ℕ) → k < 16 → slice_index e2 k ≤ 57345) → ((k : ℕ) → k < 16 → slice_index z1 k ≤ 8190) → ((k : ℕ) → k < 16 → slice_index z2 k ≤ 8190)
      → (w : ℕ) → w < 32 → slice_index (t1 ++ t2) w < 2 ^ 16
  both_fit f g s t =
      by_two (λ w. slice_index (t1 ++ t2) w < 2 ^ 16)
      (λ k l. omega (arith, in_first t1 t2 k p.costs_len l, p.cost k l, f k l, s k l))
      (λ k l. omega (arith, in_last t1 t2 k p.costs_len l, q.cost k l, g k l, t k l))

-- ---- the step

module _ (pair : CostPair) (oa ob oc od zero one lf ll hf hl lfm llm hfm hlm new : List ℕ) (low high : ℕ) (o : AreLanes oa ob oc od) (s : AreLaidCosts pair zero one) (t : AreTurned lf ll hf hl new)
    (plf : AreLesser oa zero oc one lf lfm) (pll : AreLesser ob one od zero ll llm) (phf : AreLesser oa one oc zero hf hfm) (phl : AreLesser ob zero od one hl hlm) where
  even : (k : ℕ) → k < 32 → slice_index (oa ++ ob) (way k) ≡ slice_index (laid oa ob oc od) (2 * k)
  even k l = sym (laid_at oa ob oc od (2 * k) (omega arith) ∙ ap (slice_index (joined oa ob oc od)) (place_even k l) ∙ first_at oa ob oc od o.a_len o.b_len o.c_len o.d_len (way k) (way_small k l))

  odd : (k : ℕ) → k < 32 → slice_index (oc ++ od) (way k) ≡ slice_index (laid oa ob oc od) (2 * k + 1)
  odd k l = sym (laid_at oa ob oc od (2 * k + 1) (omega arith) ∙ ap (slice_index (joined oa ob oc od)) (place_odd k l) ∙ last_at oa ob oc od o.a_len o.b_len o.c_len o.d_len (way k) (way_small k l))

  pub turned_step : low < 2 ^ 32 → ((k : ℕ) → k < 32 → is_set low k ≡ is_odd oa ob oc od zero one one zero lf ll lfm llm o.a_len o.c_len s.zero_len s.one_len plf pll (way k))
      → ((k : ℕ) → k < 32 → is_set high k ≡ is_odd oa ob oc od one zero zero one hf hl hfm hlm o.a_len o.c_len s.one_len s.zero_len phf phl (way k)) → IsLaneStep pair (laid oa ob oc od) new low high
  turned_step small f g = record {
    low_cost = λ k l. t.low k l ∙ both_costs oa ob oc od zero one one zero lf ll lfm llm o.a_len o.c_len s.zero_len s.one_len plf pll (way k) (way_small k l)
        ∙ ap₂ min (ap₂ (λ x y. x + y) (even k l) (s.even_zero k l).is) (ap₂ (λ x y. x + y) (odd k l) (s.odd_zero k l).is);
    low_odd = λ k l. f k l ∙ ap₂ nat_lt (ap₂ (λ x y. x + y) (odd k l) (s.odd_zero k l).is) (ap₂ (λ x y. x + y) (even k l) (s.even_zero k l).is);
    low_small = small;
    high_cost = λ k l. t.high k l ∙ both_costs oa ob oc od one zero zero one hf hl hfm hlm o.a_len o.c_len s.one_len s.zero_len phf phl (way k) (way_small k l)
        ∙ ap₂ min (ap₂ (λ x y. x + y) (even k l) (s.even_one k l).is) (ap₂ (λ x y. x + y) (odd k l) (s.odd_one k l).is);
    high_odd = λ k l. g k l ∙ ap₂ nat_lt (ap₂ (λ x y. x + y) (odd k l) (s.odd_one k l).is) (ap₂ (λ x y. x + y) (even k l) (s.even_one k l).is);
  }

-- ---- lanes that were turned

abbrev ways : List ℕ → List ℕ
ways xs = map (λ k. get_or xs (way k) 0) (range_with_len 0 32)

pub turned_is : (lf ll hf hl costs : List ℕ) → costs ≡ ways (lf ++ ll) ++ ways (hf ++ hl) → AreTurned lf ll hf hl costs
turned_is lf ll hf hl costs e = record {
  low = λ k l. ap (λ z. get_or z k 0) e ∙ get_or_append_left (ways (lf ++ ll)) (ways (hf ++ hl)) 0 k l ∙ at_range (λ k. get_or (lf ++ ll) (way k) 0) 32 k refl l;
  high = λ k l.
      let f : k + 32 - 32 ≡ k = omega arith in
      ap (λ z. get_or z (k + 32) 0) e ∙ get_or-append_right (ways (lf ++ ll)) (ways (hf ++ hl)) 32 (k + 32) 0 refl (omega arith) ∙ ap (λ j. get_or (ways (hf ++ hl)) j 0) f
      ∙ at_range (λ k. get_or (hf ++ hl) (way k) 0) 32 k refl l;
}

pub turned_lanes : (lf ll hf hl a b c d : List ℕ) → AreTurned lf ll hf hl (laid a b c d) → ((w : ℕ) → w < 32 → slice_index (lf ++ ll) w < 2 ^ 16) → ((w : ℕ) → w < 32 → slice_index (hf ++ hl) w < 2 ^ 16)
    → length a ≡ 16 → length b ≡ 16 → length c ≡ 16 → length d ≡ 16 → AreLanes a b c d
turned_lanes lf ll hf hl a b c d t f g la lb lc ld = record { a_len = la; b_len = lb; c_len = lc; d_len = ld; fits = λ p l. each p l (cases_lt (state_at p) 32) }
  where
    each : (p : ℕ) → p < 64 → (state_at p < 32) ⊎ (32 ≤ state_at p) → slice_index (joined a b c d) p < 2 ^ 16
    each p l (inl m) = omega (arith, at_place a b c d p l, t.low (state_at p) m, f (way (state_at p)) (way_small (state_at p) m))
    each p l (inr m) =
        let k = state_at p - 32 in
        let n : k < 32 = omega (arith, state_small p l) in
        let e : k + 32 ≡ state_at p = omega arith in
        omega (arith, at_place a b c d p l, ap (λ n. get_or (laid a b c d) n 0) e, t.high k n, g (way k) (way_small k n))
