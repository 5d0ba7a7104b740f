-- The choices of the lanes are those of the plain step.
use Rattle.std.proofs.Common.{◌≡◌, ℕ, zero, suc, ◌+◌, ◌-◌, ◌*◌, ◌%◌, ◌^◌, ◌<◌, ◌≤◌, min, Bool, true, false, cond, not, ◌&&◌, ◌||◌, List, [], ◌∷◌, ◌++◌, length, ◌⊎◌, inl, inr, refl, sym, ap, ap₂, ◌∙◌, subst, arith, eqb, ltb, bit_or, get_or, true≢false, map, lit<}
use Rattle.std.proofs.lemmas.Bool.{cases_Bool, cases_lt, ltb-true, ltb-false, lt-ltb, le-ltb, eqb-true, agree_below_at}
use Rattle.std.proofs.lemmas.Nat.Bits.{bit_at_above}
use Rattle.std.proofs.lemmas.Nat.{or_of_32}
use Rattle.std.specs.Prelude.{slice_index, IsTrue}
use Rattle.std.specs.Bool.{nat_lt}
use Rattle.std.specs.Simd.Lanes.{zip2}
use Rattle.acs_plain.specs.declared.sums.Sums.{Sums}
use Rattle.code_paths.specs.declared.costs.CostPair.{CostPair}
use Rattle.code_paths.specs.Paths.{step_cost, parity_x, parity_y}
use Rattle.code_paths.proofs.Registers.{all_below, all_below_at}
use Rattle.spec_words.specs.Bits.{is_set}
use Rattle.code_paths.specs.States.{register}
use Rattle.acs_plain.specs.Steps.{IsStep, alive, way, takes_odd}
use Rattle.code_paths.specs.States.{even_of, odd_of}
use Rattle.acs_lanes.specs.Lanes.{IsSettled, IsReady, AreSteps, AreLess, AreStepCosts, AreTaken, IsHalfStep, IsLaneStep, cost_from, four}
use Rattle.acs_lanes.specs.Phases.{IsLow, IsWordStep}
use Rattle.acs_plain.specs.Steps.{Close}
use Rattle.code_paths.proofs.Words.{set_or, set_shl, not_lt}

or_none : (a : Bool) → (a || false) ≡ a
or_none true = refl
or_none false = refl

-- two words, one behind the other
pub set_low_word : (w a b k : ℕ) → k < w → w < 64 → is_set (bit_or a (b * 2 ^ w % 2 ^ 64)) k ≡ is_set a k
set_low_word w a b k l m = set_or a (b * 2 ^ w % 2 ^ 64) k ∙ ap (λ z. is_set a k || z) (set_shl b w k (omega arith) ∙ ap (λ z. not z && is_set b (k - w)) (lt-ltb k w l)) ∙ or_none (is_set a k)

pub set_high_word : (w a b k : ℕ) → a < 2 ^ w → w ≤ k → k < 64 → is_set (bit_or a (b * 2 ^ w % 2 ^ 64)) k ≡ is_set b (k - w)
set_high_word w a b k f h l = set_or a (b * 2 ^ w % 2 ^ 64) k ∙ ap₂ (λ y z. y || z) (ap (λ z. eqb z 1) (bit_at_above a w k f h)) (set_shl b w k l ∙ ap (λ z. not z && is_set b (k - w)) (not_lt k w h))

pub joined_high : (a b k : ℕ) → a < 2 ^ 16 → k < 16 → is_set (bit_or a (b * 2 ^ 16 % 2 ^ 64)) (k + 16) ≡ is_set b k
joined_high a b k f l = let e : k + 16 - 16 ≡ k = omega arith in set_high_word 16 a b (k + 16) f (omega arith) (omega arith) ∙ ap (is_set b) e

pub joined_small : (a b : ℕ) → a < 2 ^ 16 → b < 2 ^ 16 → bit_or a (b * 2 ^ 16 % 2 ^ 64) < 2 ^ 32
joined_small a b f g = or_of_32 a (b * 2 ^ 16 % 2 ^ 64) (omega (arith, f)) (omega (arith, g))

-- one lane
abbrev takes : Bool → Bool → ℕ → ℕ → Bool
takes ae ao x y = ao && (not ae || nat_lt y x)

pub lane_odd : (ae ao : Bool) (ce co low e o s t : ℕ) → (ae ≡ true → e + low ≡ ce) → (ae ≡ true → e ≤ 1073872896) → (ae ≡ false → e ≡ 2147483648) → (ao ≡ true → o + low ≡ co) → (ao ≡ true → o ≤ 1073872896) → (ao ≡ false → o ≡ 2147483648)
    → s ≤ 8190 → t ≤ 8190 → (ae || ao) ≡ true → ltb (o + t) (e + s) ≡ takes ae ao (ce + s) (co + t)
lane_odd true true ce co low e o s t a b d f g h i j u = same (ltb (o + t) (e + s)) (ltb (co + t) (ce + s)) refl refl
  where
    same : (x y : Bool) → ltb (o + t) (e + s) ≡ x → ltb (co + t) (ce + s) ≡ y → ltb (o + t) (e + s) ≡ ltb (co + t) (ce + s)
    same true true p q = p ∙ sym q
    same false false p q = p ∙ sym q
    same true false p q = absurd (omega (arith, ltb-true (o + t) (e + s) p, ltb-false (co + t) (ce + s) q, a refl, f refl))
    same false true p q = absurd (omega (arith, ltb-false (o + t) (e + s) p, ltb-true (co + t) (ce + s) q, a refl, f refl))
lane_odd true false ce co low e o s t a b d f g h i j u = le-ltb (o + t) (e + s) (omega (arith, b refl, h refl))
lane_odd false true ce co low e o s t a b d f g h i j u = lt-ltb (o + t) (e + s) (omega (arith, d refl, g refl))
lane_odd false false ce co low e o s t a b d f g h i j u = absurd (true≢false (sym u))

pub lane_cost : (ae ao : Bool) (ce co low e o s t : ℕ) → (ae ≡ true → e + low ≡ ce) → (ae ≡ true → e ≤ 1073872896) → (ae ≡ false → e ≡ 2147483648) → (ao ≡ true → o + low ≡ co) → (ao ≡ true → o ≤ 1073872896) → (ao ≡ false → o ≡ 2147483648)
    → s ≤ 8190 → t ≤ 8190 → (ae || ao) ≡ true → min (e + s) (o + t) + low ≡ cond (takes ae ao (ce + s) (co + t)) (co + t) (ce + s)
lane_cost true true ce co low e o s t a b d f g h i j u = go (cases_Bool (ltb (co + t) (ce + s)))
  where
    go : (ltb (co + t) (ce + s) ≡ true) ⊎ (ltb (co + t) (ce + s) ≡ false) → min (e + s) (o + t) + low ≡ cond (ltb (co + t) (ce + s)) (co + t) (ce + s)
    go (inl p) = omega (arith, ltb-true (co + t) (ce + s) p, a refl, f refl) ∙ ap (λ z. cond z (co + t) (ce + s)) (sym p)
    go (inr p) = omega (arith, ltb-false (co + t) (ce + s) p, a refl, f refl) ∙ ap (λ z. cond z (co + t) (ce + s)) (sym p)
lane_cost true false ce co low e o s t a b d f g h i j u = omega (arith, a refl, b refl, h refl)
lane_cost false true ce co low e o s t a b d f g h i j u = omega (arith, d refl, f refl, g refl)
lane_cost false false ce co low e o s t a b d f g h i j u = absurd (true≢false (sym u))

-- a settled cost of a state
record IsHalf (old : Sums) (low state cost : ℕ) : Type 0 where
  live : IsTrue (alive old state) → cost + low ≡ slice_index old.cost state
  few : IsTrue (alive old state) → cost ≤ 1073872896
  none : alive old state ≡ false → cost ≡ 2147483648

half_of : (old new : Sums) (low n : ℕ) → n < 64 → IsSettled old new low → IsHalf old low n (slice_index new.cost n)
half_of old new low n l h = record { live = h.lives n l; few = h.small n l; none = h.dead n l }

pub lane_small : (old new : Sums) (low n step : ℕ) → n < 64 → IsSettled old new low → step ≤ 8190 → slice_index new.cost n + step < 2 ^ 32
lane_small old new low n step k h l = go (cases_Bool (alive old n))
  where
    go : (alive old n ≡ true) ⊎ (alive old n ≡ false) → slice_index new.cost n + step < 2 ^ 32
    go (inl t) = omega (arith, h.small n k t)
    go (inr t) = omega (arith, h.dead n k t)

-- what two lanes hold for a state
record Lane (old : Sums) (low : ℕ) (pair : CostPair) (n e o s t : ℕ) : Type 0 where
  even : IsHalf old low (even_of n) e
  odd : IsHalf old low (odd_of n) o
  even_step : s ≡ step_cost pair (register (even_of n) ++ is_set n 5 ∷ [])
  odd_step : t ≡ step_cost pair (register (odd_of n) ++ is_set n 5 ∷ [])
  even_small : s ≤ 8190
  odd_small : t ≤ 8190

lane_choice : (old : Sums) (low : ℕ) (pair : CostPair) (n e o s t : ℕ) → Lane old low pair n e o s t → (alive old (even_of n) || alive old (odd_of n)) ≡ true → ltb (o + t) (e + s) ≡ takes_odd old pair n
lane_choice old low pair n e o s t h u =
    lane_odd (alive old (even_of n)) (alive old (odd_of n)) (slice_index old.cost (even_of n)) (slice_index old.cost (odd_of n)) low e o s t h.even.live h.even.few h.even.none h.odd.live h.odd.few h.odd.none h.even_small h.odd_small u
    ∙ ap₂ (λ x y. takes (alive old (even_of n)) (alive old (odd_of n)) (slice_index old.cost (even_of n) + x) (slice_index old.cost (odd_of n) + y)) h.even_step h.odd_step

lane_total : (old : Sums) (low : ℕ) (pair : CostPair) (n e o s t : ℕ) → Lane old low pair n e o s t → (alive old (even_of n) || alive old (odd_of n)) ≡ true → min (e + s) (o + t) + low ≡ way old pair (cond (takes_odd old pair n) (odd_of n) (even_of n)) n
lane_total old low pair n e o s t h u =
    lane_cost (alive old (even_of n)) (alive old (odd_of n)) (slice_index old.cost (even_of n)) (slice_index old.cost (odd_of n)) low e o s t h.even.live h.even.few h.even.none h.odd.live h.odd.few h.odd.none h.even_small h.odd_small u
    ∙ ap₂ (λ x y. cond (takes (alive old (even_of n)) (alive old (odd_of n)) (slice_index old.cost (even_of n) + x) (slice_index old.cost (odd_of n) + y)) (slice_index old.cost (odd_of n) + y) (slice_index old.cost (even_of n) + x)) h.even_step h.odd_step
    ∙ inside (takes_odd old pair n)
  where
    inside : (b : Bool) → cond b (way old pair (odd_of n) n) (way old pair (even_of n) n) ≡ way old pair (cond b (odd_of n) (even_of n)) n
    inside true = refl
    inside false = refl

abbrev pub bits_at : ℕ → Bool → ℕ → List Bool
bits_at parity input k = register (2 * k + parity) ++ input ∷ []

pub four_small : (pair : CostPair) (x y : Bool) → cond x pair.x1 pair.x0 + cond y pair.y1 pair.y0 ≤ 8190
four_small pair true true = omega (arith, pair.small.x1_small, pair.small.y1_small)
four_small pair true false = omega (arith, pair.small.x1_small, pair.small.y0_small)
four_small pair false true = omega (arith, pair.small.x0_small, pair.small.y1_small)
four_small pair false false = omega (arith, pair.small.x0_small, pair.small.y0_small)

pub from_small : (pair : CostPair) (parity : ℕ) (input : Bool) (k : ℕ) → cost_from pair parity input k ≤ 8190
from_small pair parity input k = four_small pair (parity_x (bits_at parity input k)) (parity_y (bits_at parity input k))

-- costs of steps whose sums are all low
pub from_low : (pair : CostPair) → IsLow pair → (parity : ℕ) (input : Bool) (k : ℕ) → cost_from pair parity input k ≤ 4095
from_low pair low parity input k = at (parity_x (bits_at parity input k)) (parity_y (bits_at parity input k))
  where
    at : (x y : Bool) → cond x pair.x1 pair.x0 + cond y pair.y1 pair.y0 ≤ 4095
    at false false = omega (arith, low 0 (omega arith))
    at false true = omega (arith, low 1 (omega arith))
    at true false = omega (arith, low 2 (omega arith))
    at true true = omega (arith, low 3 (omega arith))

-- the step of all lanes is that of all states
module _ (old new : Sums) (low : ℕ) (pair : CostPair) (cost : List ℕ) (word : ℕ) (settled : IsSettled old new low) (h : IsWordStep pair new.cost cost word) where
  newest_low : (n : ℕ) → n < 32 → is_set n 5 ≡ false
  newest_low n l = agree_below_at (λ n. is_set n 5) (λ n. false) 32 n refl l

  newest_high : (n : ℕ) → 32 ≤ n → n < 64 → is_set n 5 ≡ true
  newest_high n k l = let q : n - 32 + 32 ≡ n = omega arith in ap (λ z. is_set z 5) (sym q) ∙ agree_below_at (λ n. is_set (n + 32) 5) (λ n. true) 32 (n - 32) refl (omega arith)

  step_is : (parity : ℕ) (input : Bool) (k n state : ℕ) → 2 * k + parity ≡ state → is_set n 5 ≡ input → cost_from pair parity input k ≡ step_cost pair (register state ++ is_set n 5 ∷ [])
  step_is parity input k n state e f = ap₂ (λ z i. step_cost pair (register z ++ i ∷ [])) e (sym f)

  lane_low : (n : ℕ) → n < 32 → Lane old low pair n (slice_index new.cost (2 * n)) (slice_index new.cost (2 * n + 1)) (cost_from pair 0 false n) (cost_from pair 1 false n)
  lane_low n l =
      let e : 2 * n ≡ even_of n = omega arith in
      let o : 2 * n + 1 ≡ odd_of n = omega arith in
      record {
        even = subst (λ z. IsHalf old low z (slice_index new.cost (2 * n))) e (half_of old new low (2 * n) (omega arith) settled);
        odd = subst (λ z. IsHalf old low z (slice_index new.cost (2 * n + 1))) o (half_of old new low (2 * n + 1) (omega arith) settled);
        even_step = step_is 0 false n n (even_of n) (omega arith) (newest_low n l);
        odd_step = step_is 1 false n n (odd_of n) (omega arith) (newest_low n l);
        even_small = from_small pair 0 false n;
        odd_small = from_small pair 1 false n;
      }

  lane_high : (n : ℕ) → 32 ≤ n → n < 64 → Lane old low pair n (slice_index new.cost (2 * (n - 32))) (slice_index new.cost (2 * (n - 32) + 1)) (cost_from pair 0 true (n - 32)) (cost_from pair 1 true (n - 32))
  lane_high n k l =
      let e : 2 * (n - 32) ≡ even_of n = omega arith in
      let o : 2 * (n - 32) + 1 ≡ odd_of n = omega arith in
      record {
        even = subst (λ z. IsHalf old low z (slice_index new.cost (2 * (n - 32)))) e (half_of old new low (2 * (n - 32)) (omega arith) settled);
        odd = subst (λ z. IsHalf old low z (slice_index new.cost (2 * (n - 32) + 1))) o (half_of old new low (2 * (n - 32) + 1) (omega arith) settled);
        even_step = step_is 0 true (n - 32) n (even_of n) (omega arith) (newest_high n k l);
        odd_step = step_is 1 true (n - 32) n (odd_of n) (omega arith) (newest_high n k l);
        even_small = from_small pair 0 true (n - 32);
        odd_small = from_small pair 1 true (n - 32);
      }

  pub word_step_of : (live : ℕ) → ((n : ℕ) → n < 64 → is_set live n ≡ (alive old (even_of n) || alive old (odd_of n))) → IsStep old pair (record { cost = cost; alive = live }) word
  word_step_of live f = record {
    less = low;
    lives = f;
    choice = λ n l t. choose n l (sym (f n l) ∙ t) (cases_lt n 32);
    cost = λ n l t. count n l (sym (f n l) ∙ t) (cases_lt n 32);
  }
    where
      choose : (n : ℕ) → n < 64 → (alive old (even_of n) || alive old (odd_of n)) ≡ true → (n < 32) ⊎ (32 ≤ n) → is_set word n ≡ takes_odd old pair n
      choose n l u (inl k) = h.low_odd n k ∙ lane_choice old low pair n _ _ _ _ (lane_low n k) u
      choose n l u (inr k) =
          let q : n - 32 + 32 ≡ n = omega arith in
          ap (is_set word) (sym q) ∙ h.high_odd (n - 32) (omega arith) ∙ lane_choice old low pair n _ _ _ _ (lane_high n k l) u

      count : (n : ℕ) → n < 64 → (alive old (even_of n) || alive old (odd_of n)) ≡ true → (n < 32) ⊎ (32 ≤ n) → slice_index cost n + low ≡ way old pair (cond (takes_odd old pair n) (odd_of n) (even_of n)) n
      count n l u (inl k) = ap (λ z. z + low) (h.low_cost n k) ∙ lane_total old low pair n _ _ _ _ (lane_low n k) u
      count n l u (inr k) =
          let q : n - 32 + 32 ≡ n = omega arith in
          ap (λ z. slice_index cost z + low) (sym q) ∙ ap (λ z. z + low) (h.high_cost (n - 32) (omega arith)) ∙ lane_total old low pair n _ _ _ _ (lane_high n k l) u

-- two words of 32 bits, one behind the other
pub in_one_word : (pair : CostPair) (old new : List ℕ) (d0 d1 : ℕ) → IsLaneStep pair old new d0 d1 → IsWordStep pair old new (bit_or d0 (d1 * 2 ^ 32 % 2 ^ 64))
in_one_word pair old new d0 d1 h = record {
  low_cost = h.low_cost;
  low_odd = λ k l. set_low_word 32 d0 d1 k l (omega arith) ∙ h.low_odd k l;
  high_cost = h.high_cost;
  high_odd = λ k l. let e : k + 32 - 32 ≡ k = omega arith in set_high_word 32 d0 d1 (k + 32) h.low_small (omega arith) (omega arith) ∙ ap (is_set d1) e ∙ h.high_odd k l;
}

pub lanes_step : (old new : Sums) (low : ℕ) (pair : CostPair) (cost : List ℕ) (d0 d1 : ℕ) → IsSettled old new low → IsLaneStep pair new.cost cost d0 d1 → (live : ℕ) → ((n : ℕ) → n < 64 → is_set live n ≡ (alive old (even_of n) || alive old (odd_of n)))
    → IsStep old pair (record { cost = cost; alive = live }) (bit_or d0 (d1 * 2 ^ 32 % 2 ^ 64))
lanes_step old new low pair cost d0 d1 settled h = word_step_of old new low pair cost (bit_or d0 (d1 * 2 ^ 32 % 2 ^ 64)) settled (in_one_word pair new.cost cost d0 d1 h)

-- ---- ready sums

all_ones : (n : ℕ) → n < 64 → is_set 18446744073709551615 n ≡ true
all_ones n l = agree_below_at (λ n. is_set 18446744073709551615 n) (λ n. true) 64 n refl l

pub ready_is : (sums : Sums) → Close 131072 sums → sums.alive ≡ 18446744073709551615 → slice_index sums.cost 0 < 2 ^ 30 → IsReady sums
ready_is sums c e l = record { lives = λ n k. live n k; small = λ n k. omega (arith, c.close n 0 k (lit< tt) (live n k) (live 0 (lit< tt)), l) }
  where
    live : (n : ℕ) → n < 64 → IsTrue (alive sums n)
    live n k = ap (λ z. is_set z n) e ∙ all_ones n k

-- ---- tables of lanes

abbrev pub evens : List ℕ
evens = 0 ∷ 2 ∷ 4 ∷ 6 ∷ 8 ∷ 10 ∷ 12 ∷ 14 ∷ 16 ∷ 18 ∷ 20 ∷ 22 ∷ 24 ∷ 26 ∷ 28 ∷ 30 ∷ []

abbrev pub odds : List ℕ
odds = 1 ∷ 3 ∷ 5 ∷ 7 ∷ 9 ∷ 11 ∷ 13 ∷ 15 ∷ 17 ∷ 19 ∷ 21 ∷ 23 ∷ 25 ∷ 27 ∷ 29 ∷ 31 ∷ []

pub at_map : (f : ℕ → ℕ) (xs : List ℕ) (k : ℕ) → k < length xs → get_or (map f xs) k 0 ≡ f (get_or xs k 0)
at_map f [] k l = absurd (omega arith)
at_map f (x ∷ xs) zero l = refl
at_map f (x ∷ xs) (suc k) l = at_map f xs k (omega arith)

pub same_number : (f g : ℕ → ℕ) (k : ℕ) → k < 16 → all_below (λ k. eqb (f k) (g k)) 16 ≡ true → f k ≡ g k
same_number f g k l t = eqb-true (f k) (g k) (all_below_at (λ k. eqb (f k) (g k)) 16 k t l)

pub even_lanes : (w : List ℕ) (k : ℕ) → k < 16 → get_or (map (λ j. get_or w j 0) evens) k 0 ≡ get_or w (2 * k) 0
even_lanes w k l = at_map (λ j. get_or w j 0) evens k l ∙ ap (λ j. get_or w j 0) (same_number (λ k. get_or evens k 0) (λ k. 2 * k) k l refl)

pub odd_lanes : (w : List ℕ) (k : ℕ) → k < 16 → get_or (map (λ j. get_or w j 0) odds) k 0 ≡ get_or w (2 * k + 1) 0
odd_lanes w k l = at_map (λ j. get_or w j 0) odds k l ∙ ap (λ j. get_or w j 0) (same_number (λ k. get_or odds k 0) (λ k. 2 * k + 1) k l refl)

abbrev pub code_of : Bool → Bool → ℕ
code_of x y = 2 * cond x 1 0 + cond y 1 0

pub four_at : (pair : CostPair) (x y : Bool) → get_or (four pair) (code_of x y) 0 ≡ cond x pair.x1 pair.x0 + cond y pair.y1 pair.y0
four_at pair true true = refl
four_at pair true false = refl
four_at pair false true = refl
four_at pair false false = refl

-- each X beside each Y
pub four_sums : (pair : CostPair) → zip2 (λ a b. (a + b) % 4294967296) (pair.x0 ∷ pair.x0 ∷ pair.x1 ∷ pair.x1 ∷ []) (pair.y0 ∷ pair.y1 ∷ pair.y0 ∷ pair.y1 ∷ []) ≡ four pair
four_sums pair =
    let a : (pair.x0 + pair.y0) % 4294967296 ≡ pair.x0 + pair.y0 = omega (arith, pair.small.x0_small, pair.small.y0_small) in
    let b : (pair.x0 + pair.y1) % 4294967296 ≡ pair.x0 + pair.y1 = omega (arith, pair.small.x0_small, pair.small.y1_small) in
    let c : (pair.x1 + pair.y0) % 4294967296 ≡ pair.x1 + pair.y0 = omega (arith, pair.small.x1_small, pair.small.y0_small) in
    let d : (pair.x1 + pair.y1) % 4294967296 ≡ pair.x1 + pair.y1 = omega (arith, pair.small.x1_small, pair.small.y1_small) in
    ap₂ (λ x xs. x ∷ xs) a (ap₂ (λ x xs. x ∷ xs) b (ap₂ (λ x xs. x ∷ xs) c (ap (λ x. x ∷ []) d)))

-- the codes 2X + Y of the steps from the states 2k + parity on an input
abbrev codes_from : ℕ → Bool → ℕ → ℕ → ℕ
codes_from parity input from k = code_of (parity_x (bits_at parity input (from + k))) (parity_y (bits_at parity input (from + k)))

steps_at : (pair : CostPair) (codes : List ℕ) (parity : ℕ) (input : Bool) (from : ℕ) → length codes ≡ 16 → all_below (λ k. eqb (get_or codes k 0) (codes_from parity input from k)) 16 ≡ true
    → (k : ℕ) → k < 16 → AreSteps pair parity input (from + k) (get_or (map (λ j. get_or (four pair) j 0) codes) k 0)
steps_at pair codes parity input from n t k l =
    let e = same_number (λ k. get_or codes k 0) (codes_from parity input from) k l t in
    let f = at_map (λ j. get_or (four pair) j 0) codes k (omega (arith, n)) ∙ ap (λ j. get_or (four pair) j 0) e ∙ four_at pair (parity_x (bits_at parity input (from + k))) (parity_y (bits_at parity input (from + k))) in
    record { is = f; small = omega (arith, f, four_small pair (parity_x (bits_at parity input (from + k))) (parity_y (bits_at parity input (from + k)))) }

abbrev first_zeros : List ℕ
first_zeros = 0 ∷ 1 ∷ 0 ∷ 1 ∷ 3 ∷ 2 ∷ 3 ∷ 2 ∷ 3 ∷ 2 ∷ 3 ∷ 2 ∷ 0 ∷ 1 ∷ 0 ∷ 1 ∷ []

abbrev first_ones : List ℕ
first_ones = 3 ∷ 2 ∷ 3 ∷ 2 ∷ 0 ∷ 1 ∷ 0 ∷ 1 ∷ 0 ∷ 1 ∷ 0 ∷ 1 ∷ 3 ∷ 2 ∷ 3 ∷ 2 ∷ []

abbrev last_zeros : List ℕ
last_zeros = 2 ∷ 3 ∷ 2 ∷ 3 ∷ 1 ∷ 0 ∷ 1 ∷ 0 ∷ 1 ∷ 0 ∷ 1 ∷ 0 ∷ 2 ∷ 3 ∷ 2 ∷ 3 ∷ []

abbrev last_ones : List ℕ
last_ones = 1 ∷ 0 ∷ 1 ∷ 0 ∷ 2 ∷ 3 ∷ 2 ∷ 3 ∷ 2 ∷ 3 ∷ 2 ∷ 3 ∷ 1 ∷ 0 ∷ 1 ∷ 0 ∷ []

abbrev lanes_of : List ℕ → List ℕ → List ℕ
lanes_of costs codes = map (λ j. get_or costs j 0) codes

pub first_steps : (costs : List ℕ) (pair : CostPair) → costs ≡ four pair → AreStepCosts pair 0 (lanes_of (costs ++ costs) first_zeros) (lanes_of (costs ++ costs) first_ones)
first_steps costs pair e = subst (λ z. AreStepCosts pair 0 (lanes_of (z ++ z) first_zeros) (lanes_of (z ++ z) first_ones)) (sym e) (record {
  zero_len = refl;
  one_len = refl;
  even_zero = steps_at pair first_zeros 0 false 0 refl refl;
  odd_one = steps_at pair first_zeros 1 true 0 refl refl;
  even_one = steps_at pair first_ones 0 true 0 refl refl;
  odd_zero = steps_at pair first_ones 1 false 0 refl refl;
})

pub last_steps : (costs : List ℕ) (pair : CostPair) → costs ≡ four pair → AreStepCosts pair 16 (lanes_of (costs ++ costs) last_zeros) (lanes_of (costs ++ costs) last_ones)
last_steps costs pair e = subst (λ z. AreStepCosts pair 16 (lanes_of (z ++ z) last_zeros) (lanes_of (z ++ z) last_ones)) (sym e) (record {
  zero_len = refl;
  one_len = refl;
  even_zero = steps_at pair last_zeros 0 false 16 refl refl;
  odd_one = steps_at pair last_zeros 1 true 16 refl refl;
  even_one = steps_at pair last_ones 0 true 16 refl refl;
  odd_zero = steps_at pair last_ones 1 false 16 refl refl;
})

-- ---- what the vectors of a step add

pub lanes_fit : (old costs steps : List ℕ) (parity : ℕ) → parity < 2 → length costs ≡ 16 → length steps ≡ 16 → ((k : ℕ) → k < 16 → slice_index costs k ≡ slice_index old (2 * k + parity))
    → ((j : ℕ) → j < 32 → slice_index old j + 8190 < 2 ^ 32) → ((k : ℕ) → k < 16 → slice_index steps k ≤ 8190) → AreLess costs steps
lanes_fit old costs steps parity p l m e f s = record {
  costs_len = l;
  steps_len = m;
  fits = λ k n. omega (arith, e k n, f (2 * k + parity) (omega arith), s k n);
}

-- ---- sixteen lanes and sixteen more

by_parts : {A : Type 0} (want have first last : ℕ → A) → ((k : ℕ) → k < 16 → have k ≡ first k) → ((k : ℕ) → k < 16 → have (k + 16) ≡ last k) → ((k : ℕ) → k < 16 → first k ≡ want (0 + k)) → ((k : ℕ) → k < 16 → last k ≡ want (16 + k))
    → (k : ℕ) → k < 32 → have k ≡ want k
by_parts want have first last p q r s k l = go (cases_lt k 16)
  where
    go : (k < 16) ⊎ (16 ≤ k) → have k ≡ want k
    go (inl m) = let e : 0 + k ≡ k = omega arith in p k m ∙ r k m ∙ ap want e
    go (inr m) =
        let e : k - 16 + 16 ≡ k = omega arith in
        let f : 16 + (k - 16) ≡ k = omega arith in
        ap have (sym e) ∙ q (k - 16) (omega arith) ∙ s (k - 16) (omega arith) ∙ ap want f

-- the lesser way into state k or k + 32, and whether it is the odd one alone
abbrev way_of : CostPair → List ℕ → Bool → ℕ → ℕ
way_of pair old input k = min (slice_index old (2 * k) + cost_from pair 0 input k) (slice_index old (2 * k + 1) + cost_from pair 1 input k)

abbrev odd_of_two : CostPair → List ℕ → Bool → ℕ → Bool
odd_of_two pair old input k = nat_lt (slice_index old (2 * k + 1) + cost_from pair 1 input k) (slice_index old (2 * k) + cost_from pair 0 input k)

module _ (pair : CostPair) (old part zero one costs : List ℕ) (word from : ℕ) (at : (j : ℕ) → j < 32 → slice_index part j ≡ slice_index old (2 * from + j)) (s : AreStepCosts pair from zero one) where
  even_at : (k : ℕ) → k < 16 → slice_index part (2 * k) ≡ slice_index old (2 * (from + k))
  even_at k l = let e : 2 * from + 2 * k ≡ 2 * (from + k) = omega arith in at (2 * k) (omega arith) ∙ ap (slice_index old) e

  odd_at : (k : ℕ) → k < 16 → slice_index part (2 * k + 1) ≡ slice_index old (2 * (from + k) + 1)
  odd_at k l = let e : 2 * from + (2 * k + 1) ≡ 2 * (from + k) + 1 = omega arith in at (2 * k + 1) (omega arith) ∙ ap (slice_index old) e

  pub zero_cost : AreTaken part zero one costs word → (k : ℕ) → k < 16 → slice_index costs k ≡ way_of pair old false (from + k)
  zero_cost t k l = t.cost k l ∙ ap₂ min (ap₂ (λ x y. x + y) (even_at k l) (s.even_zero k l).is) (ap₂ (λ x y. x + y) (odd_at k l) (s.odd_zero k l).is)

  pub zero_odd : AreTaken part zero one costs word → (k : ℕ) → k < 16 → is_set word k ≡ odd_of_two pair old false (from + k)
  zero_odd t k l = t.odd k l ∙ ap₂ nat_lt (ap₂ (λ x y. x + y) (odd_at k l) (s.odd_zero k l).is) (ap₂ (λ x y. x + y) (even_at k l) (s.even_zero k l).is)

  pub one_cost : AreTaken part one zero costs word → (k : ℕ) → k < 16 → slice_index costs k ≡ way_of pair old true (from + k)
  one_cost t k l = t.cost k l ∙ ap₂ min (ap₂ (λ x y. x + y) (even_at k l) (s.even_one k l).is) (ap₂ (λ x y. x + y) (odd_at k l) (s.odd_one k l).is)

  pub one_odd : AreTaken part one zero costs word → (k : ℕ) → k < 16 → is_set word k ≡ odd_of_two pair old true (from + k)
  one_odd t k l = t.odd k l ∙ ap₂ nat_lt (ap₂ (λ x y. x + y) (odd_at k l) (s.odd_one k l).is) (ap₂ (λ x y. x + y) (even_at k l) (s.even_one k l).is)

-- a word of two
pub record IsJoined (first last word : ℕ) : Type 0 where
  pub low : (k : ℕ) → k < 16 → is_set word k ≡ is_set first k
  pub high : (k : ℕ) → k < 16 → is_set word (k + 16) ≡ is_set last k
  pub small : word < 2 ^ 32

pub lanes_joined : (pair : CostPair) (old first last after before waiting new : List ℕ) (wa wb wc wd low high : ℕ)
    → ((j : ℕ) → j < 32 → slice_index first j ≡ slice_index old (2 * 0 + j)) → ((j : ℕ) → j < 32 → slice_index last j ≡ slice_index old (2 * 16 + j))
    → IsHalfStep pair 0 first (slice_index after) (λ k. slice_index after (32 + k)) wa wc → IsHalfStep pair 16 last (slice_index waiting) (λ k. slice_index before (48 + k)) wb wd
    → ((k : ℕ) → 48 ≤ k → k < 64 → slice_index after k ≡ slice_index before k)
    → ((k : ℕ) → k < 16 → slice_index new (16 + k) ≡ slice_index waiting k) → ((k : ℕ) → k < 16 → slice_index new k ≡ slice_index after k) → ((k : ℕ) → 32 ≤ k → k < 64 → slice_index new k ≡ slice_index after k)
    → IsJoined wa wb low → IsJoined wc wd high → IsLaneStep pair old new low high
lanes_joined pair old first last after before waiting new wa wb wc wd low high f g s t b n p q j k = record {
  low_cost = by_parts (way_of pair old false) (slice_index new) (slice_index s.low) (slice_index t.low) (λ k l. p k l ∙ s.low_is k l) (λ k l. at new (k + 16) (16 + k) (omega arith) ∙ n k l ∙ t.low_is k l)
      (zero_cost pair old first s.zero s.one s.low wa 0 f s.steps s.low_taken) (zero_cost pair old last t.zero t.one t.low wb 16 g t.steps t.low_taken);
  low_odd = by_parts (odd_of_two pair old false) (is_set low) (is_set wa) (is_set wb) j.low j.high (zero_odd pair old first s.zero s.one s.low wa 0 f s.steps s.low_taken) (zero_odd pair old last t.zero t.one t.low wb 16 g t.steps t.low_taken);
  low_small = j.small;
  high_cost = by_parts (way_of pair old true) (λ n. slice_index new (n + 32)) (slice_index s.high) (slice_index t.high) (λ k l. at new (k + 32) (32 + k) (omega arith) ∙ q (32 + k) (omega arith) (omega arith) ∙ s.high_is k l)
      (λ k l. at new (k + 16 + 32) (48 + k) (omega arith) ∙ q (48 + k) (omega arith) (omega arith) ∙ b (48 + k) (omega arith) (omega arith) ∙ t.high_is k l)
      (one_cost pair old first s.zero s.one s.high wc 0 f s.steps s.high_taken) (one_cost pair old last t.zero t.one t.high wd 16 g t.steps t.high_taken);
  high_odd = by_parts (odd_of_two pair old true) (is_set high) (is_set wc) (is_set wd) k.low k.high (one_odd pair old first s.zero s.one s.high wc 0 f s.steps s.high_taken) (one_odd pair old last t.zero t.one t.high wd 16 g t.steps t.high_taken);
}
  where
    at : (xs : List ℕ) (m n : ℕ) → m ≡ n → slice_index xs m ≡ slice_index xs n
    at xs m n e = ap (slice_index xs) e

-- where all states are alive and small nothing is to be settled, and all are alive after a step
pub ready_settled : (sums : Sums) → IsReady sums → IsSettled sums sums 0
ready_settled sums r = record {
  lives = λ n l t. omega arith;
  small = λ n l t. r.small n l;
  dead = λ n l f. absurd (true≢false (sym (r.lives n l) ∙ f));
}

pub all_stay : (sums : Sums) → IsReady sums → (n : ℕ) → n < 64 → is_set sums.alive n ≡ (alive sums (even_of n) || alive sums (odd_of n))
all_stay sums r n l = r.lives n l ∙ sym (ap (λ b. b || alive sums (odd_of n)) (r.lives (even_of n) (omega arith)))
