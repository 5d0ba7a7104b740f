-- A step backward in lanes of 16 bits: which sums are where.
use Rattle.std.proofs.Common.{◌≡◌, ℕ, ◌+◌, ◌-◌, ◌*◌, ◌<◌, ◌≤◌, min, List, [], ◌∷◌, ◌++◌, length, map, ◌⊎◌, inl, inr, refl, ap, ap₂, ◌∙◌, arith, get_or, take, drop, true, false}
use Rattle.std.proofs.lemmas.Bool.{cases_lt}
use Rattle.std.proofs.lemmas.List.{get_or_append_left, get_or-append_right, get_or-take, get_or-drop}
use Rattle.std.specs.Prelude.{slice_index}
use Rattle.code_paths.specs.declared.costs.CostPair.{CostPair}
use Rattle.acs_lanes.specs.Lanes.{AreStepCosts, cost_from}
use Rattle.acs_lanes.specs.Lanes16.{joined}
use Rattle.acs_lanes.specs.Totals.{IsBackward}
use Rattle.acs_lanes.proofs.LaneLaws.{at_map, same_number}
use Rattle.acs_lanes.proofs.Quarters.{first_at, last_at}

abbrev pub zipped : List ℕ
zipped = 0 ∷ 16 ∷ 1 ∷ 17 ∷ 2 ∷ 18 ∷ 3 ∷ 19 ∷ 4 ∷ 20 ∷ 5 ∷ 21 ∷ 6 ∷ 22 ∷ 7 ∷ 23 ∷ 8 ∷ 24 ∷ 9 ∷ 25 ∷ 10 ∷ 26 ∷ 11 ∷ 27 ∷ 12 ∷ 28 ∷ 13 ∷ 29 ∷ 14 ∷ 30 ∷ 15 ∷ 31 ∷ []

pub zip_even : (a b : List ℕ) (k : ℕ) → length a ≡ 16 → k < 16 → get_or (map (λ j. get_or (a ++ b) j 0) zipped) (2 * k) 0 ≡ get_or a k 0
zip_even a b k la l =
    at_map (λ j. get_or (a ++ b) j 0) zipped (2 * k) (omega arith) ∙ ap (λ j. get_or (a ++ b) j 0) (same_number (λ k. get_or zipped (2 * k) 0) (λ k. k) k l refl) ∙ get_or_append_left a b 0 k (omega (arith, la))

pub zip_odd : (a b : List ℕ) (k : ℕ) → length a ≡ 16 → k < 16 → get_or (map (λ j. get_or (a ++ b) j 0) zipped) (2 * k + 1) 0 ≡ get_or b k 0
zip_odd a b k la l =
    let e : 16 + k - 16 ≡ k = omega arith in
    at_map (λ j. get_or (a ++ b) j 0) zipped (2 * k + 1) (omega arith) ∙ ap (λ j. get_or (a ++ b) j 0) (same_number (λ k. get_or zipped (2 * k + 1) 0) (λ k. 16 + k) k l refl)
    ∙ get_or-append_right a b 16 (16 + k) 0 la (omega arith) ∙ ap (λ j. get_or b j 0) e

-- sixteen costs in a row
pub part_at : (w old : List ℕ) (i k j : ℕ) → w ≡ take 16 (drop i old) → k < 16 → i + k ≡ j → get_or w k 0 ≡ get_or old j 0
part_at w old i k j e l f = ap (λ z. get_or z k 0) e ∙ get_or-take 16 (drop i old) k 0 l ∙ get_or-drop i old k 0 ∙ ap (λ z. get_or old z 0) f

-- the costs of 32 states in a row
module _ (pair : CostPair) (old zero one same other first last : List ℕ) (from : ℕ) (s : AreStepCosts pair from same other)
    (z : (k : ℕ) → k < 16 → slice_index zero k ≡ slice_index old (from + k)) (o : (k : ℕ) → k < 16 → slice_index one k ≡ slice_index old (from + k + 32)) where
  pub even_at : ((k : ℕ) → k < 16 → slice_index (first ++ last) (2 * k) ≡ min (slice_index zero k + slice_index same k) (slice_index one k + slice_index other k))
      → (k : ℕ) → k < 16 → slice_index (first ++ last) (2 * k) ≡ min (slice_index old (from + k) + cost_from pair 0 false (from + k)) (slice_index old (from + k + 32) + cost_from pair 0 true (from + k))
  even_at h k l = h k l ∙ ap₂ min (ap₂ (λ x y. x + y) (z k l) (s.even_zero k l).is) (ap₂ (λ x y. x + y) (o k l) (s.even_one k l).is)

  pub odd_at : ((k : ℕ) → k < 16 → slice_index (first ++ last) (2 * k + 1) ≡ min (slice_index zero k + slice_index other k) (slice_index one k + slice_index same k))
      → (k : ℕ) → k < 16 → slice_index (first ++ last) (2 * k + 1) ≡ min (slice_index old (from + k) + cost_from pair 1 false (from + k)) (slice_index old (from + k + 32) + cost_from pair 1 true (from + k))
  odd_at h k l = h k l ∙ ap₂ min (ap₂ (λ x y. x + y) (z k l) (s.odd_zero k l).is) (ap₂ (λ x y. x + y) (o k l) (s.odd_one k l).is)

-- the lesser of the ways from state 2k + parity
abbrev pub way_on : CostPair → List ℕ → ℕ → ℕ → ℕ
way_on pair old parity k = min (slice_index old k + cost_from pair parity false k) (slice_index old (k + 32) + cost_from pair parity true k)

module _ (pair : CostPair) (old a b c d : List ℕ) (la : length a ≡ 16) (lb : length b ≡ 16) (lc : length c ≡ 16) (ld : length d ≡ 16) where
  whole_at : (parity : ℕ) → parity < 2 → ((k : ℕ) → k < 16 → slice_index (a ++ b) (2 * k + parity) ≡ way_on pair old parity (0 + k)) → ((k : ℕ) → k < 16 → slice_index (c ++ d) (2 * k + parity) ≡ way_on pair old parity (16 + k))
      → (k : ℕ) → k < 32 → slice_index (joined a b c d) (2 * k + parity) ≡ way_on pair old parity k
  whole_at parity p f g k l = go (cases_lt k 16)
    where
      go : (k < 16) ⊎ (16 ≤ k) → slice_index (joined a b c d) (2 * k + parity) ≡ way_on pair old parity k
      go (inl m) = let e : 0 + k ≡ k = omega arith in first_at a b c d la lb lc ld (2 * k + parity) (omega arith) ∙ f k m ∙ ap (way_on pair old parity) e
      go (inr m) =
          let e : 16 + (k - 16) ≡ k = omega arith in
          let i : 2 * k + parity ≡ 32 + (2 * (k - 16) + parity) = omega arith in
          ap (slice_index (joined a b c d)) i ∙ last_at a b c d la lb lc ld (2 * (k - 16) + parity) (omega arith) ∙ g (k - 16) (omega arith) ∙ ap (way_on pair old parity) e

  pub joined_backward : (new : List ℕ) → new ≡ joined a b c d → ((k : ℕ) → k < 16 → slice_index (a ++ b) (2 * k) ≡ way_on pair old 0 (0 + k)) → ((k : ℕ) → k < 16 → slice_index (a ++ b) (2 * k + 1) ≡ way_on pair old 1 (0 + k))
      → ((k : ℕ) → k < 16 → slice_index (c ++ d) (2 * k) ≡ way_on pair old 0 (16 + k)) → ((k : ℕ) → k < 16 → slice_index (c ++ d) (2 * k + 1) ≡ way_on pair old 1 (16 + k)) → IsBackward pair old new
  joined_backward new n e o g q = record {
    even = λ k l. let z : 2 * k ≡ 2 * k + 0 = omega arith in ap (slice_index new) z ∙ ap (λ w. slice_index w (2 * k + 0)) n ∙ whole_at 0 (omega arith) (λ j m. let y : 2 * j + 0 ≡ 2 * j = omega arith in ap (slice_index (a ++ b)) y ∙ e j m) (λ j m. let y : 2 * j + 0 ≡ 2 * j = omega arith in ap (slice_index (c ++ d)) y ∙ g j m) k l;
    odd = λ k l. ap (λ w. slice_index w (2 * k + 1)) n ∙ whole_at 1 (omega arith) o q k l;
  }
