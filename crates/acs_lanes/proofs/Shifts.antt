-- Lanes stand for sums that are higher by one number.
use Rattle.std.proofs.Common.{◌≡◌, ℕ, ◌+◌, ◌*◌, ◌%◌, ◌^◌, ◌<◌, ◌≤◌, Bool, true, false, cond, not, ◌&&◌, ◌||◌, List, [], ◌∷◌, length, refl, sym, ap, ap₂, ◌∙◌, subst, arith, bit_or, ltb, true≢false, lit≤}
use native.Mathlib.Nat.{mod-one}
use Rattle.std.proofs.lemmas.Bool.{ltb-true, ltb-false, agree_below_at}
use Rattle.std.specs.Prelude.{slice_index, IsTrue}
use Rattle.code_paths.specs.declared.costs.CostPair.{CostPair}
use Rattle.code_paths.specs.States.{even_of, odd_of}
use Rattle.spec_words.specs.Bits.{is_set}
use Rattle.acs_plain.specs.declared.sums.Sums.{Sums}
use Rattle.acs_plain.specs.Steps.{IsStep, HasCost, alive, way, takes_odd}
use Rattle.acs_plain.proofs.Loops.{all_follow}
use Rattle.acs_lanes.specs.Lanes.{IsLaneStep, IsSettled}
use Rattle.acs_lanes.specs.Phases.{IsWordStep}
use Rattle.acs_lanes.proofs.LaneLaws.{in_one_word, word_step_of}
use Rattle.acs_plain.specs.Steps.{AreSteps}
use Rattle.acs_plain.specs.Spread.{IsSpread}
use Rattle.acs_lanes.specs.Lanes16.{AreLowered, AreClose, all_with}

pub all_live : (costs : List ℕ) (n : ℕ) → n < 64 → IsTrue (alive (all_with costs) n)
all_live costs n l = agree_below_at (λ n. is_set 18446744073709551615 n) (λ n. true) 64 n refl l

-- all alive sums of a stream are within six steps of one another
pub close_all : (costs : List ℕ) → IsSpread (all_with costs) → AreClose costs
close_all costs h m n i j = omega (arith, h.close 6 (lit≤ tt) m n i j (all_live costs m i) (all_live costs n j) (mod-one m ∙ sym (mod-one n)))

pub word_step : (pair : CostPair) (old low new : List ℕ) (word : ℕ) → AreLowered old low → IsWordStep pair low new word → IsStep (all_with old) pair (all_with new) word
word_step pair old low new word h s = word_step_of (all_with old) (all_with low) h.less pair new word settled s 18446744073709551615 (all_follow (all_with old) refl)
  where
    settled : IsSettled (all_with old) (all_with low) h.less
    settled = record { lives = λ n l t. h.is n l; small = λ n l t. omega (arith, h.few n l); dead = λ n l f. absurd (true≢false (sym (all_live old n l) ∙ f)) }

pub lane_step : (pair : CostPair) (old low new : List ℕ) (d0 d1 : ℕ) → AreLowered old low → IsLaneStep pair low new d0 d1 → IsStep (all_with old) pair (all_with new) (bit_or d0 (d1 * 2 ^ 32 % 2 ^ 64))
lane_step pair old low new d0 d1 h s = word_step pair old low new (bit_or d0 (d1 * 2 ^ 32 % 2 ^ 64)) h (in_one_word pair low new d0 d1 s)

-- ---- sums that are less by one number

shifted_lt : (x y k : ℕ) → ltb (x + k) (y + k) ≡ ltb x y
shifted_lt x y k = go (ltb (x + k) (y + k)) (ltb x y) refl refl
  where
    go : (a b : Bool) → ltb (x + k) (y + k) ≡ a → ltb x y ≡ b → ltb (x + k) (y + k) ≡ ltb x y
    go true true p q = p ∙ sym q
    go false false p q = p ∙ sym q
    go true false p q = absurd (omega (arith, ltb-true (x + k) (y + k) p, ltb-false x y q))
    go false true p q = absurd (omega (arith, ltb-false (x + k) (y + k) p, ltb-true x y q))

module _ (old low : Sums) (less : ℕ) (same : low.alive ≡ old.alive) (is : (n : ℕ) → n < 64 → slice_index low.cost n + less ≡ slice_index old.cost n) where
  way_is : (pair : CostPair) (from n : ℕ) → from < 64 → way low pair from n + less ≡ way old pair from n
  way_is pair from n l = omega (arith, is from l)

  live_is : (n : ℕ) → alive low n ≡ alive old n
  live_is n = ap (λ w. is_set w n) same

  takes_is : (pair : CostPair) (n : ℕ) → takes_odd low pair n ≡ takes_odd old pair n
  takes_is pair n =
      ap₂ (λ x y. x && y) (live_is (odd_of n))
      (ap₂ (λ x y. x || y) (ap not (live_is (even_of n))) (sym (shifted_lt (way low pair (odd_of n) n) (way low pair (even_of n) n) less) ∙ ap₂ ltb (way_is pair (odd_of n) n (omega arith)) (way_is pair (even_of n) n (omega arith))))

  chosen_small : (b : Bool) (n : ℕ) → cond b (odd_of n) (even_of n) < 64
  chosen_small true n = omega arith
  chosen_small false n = omega arith

  pub step_shifted : (pair : CostPair) (new : Sums) (word : ℕ) → IsStep low pair new word → IsStep old pair new word
  step_shifted pair new word s = record {
    less = s.less + less;
    lives = λ n l. s.lives n l ∙ ap₂ (λ x y. x || y) (live_is (even_of n)) (live_is (odd_of n));
    choice = λ n l t. s.choice n l t ∙ takes_is pair n;
    cost = λ n l t.
        omega (arith, s.cost n l t, way_is pair (cond (takes_odd low pair n) (odd_of n) (even_of n)) n (chosen_small (takes_odd low pair n) n))
        ∙ ap (λ b. way old pair (cond b (odd_of n) (even_of n)) n) (takes_is pair n);
  }

  -- at least one step
  pub steps_shifted : (pairs : List CostPair) (new : Sums) (words : List ℕ) → 0 < length pairs → AreSteps low pairs new words → AreSteps old pairs new words
  steps_shifted [] new words l h = absurd (omega arith)
  steps_shifted (p ∷ ps) new [] l h = absurd h
  steps_shifted (p ∷ ps) new (w ∷ ws) l (next, s, r) = (next, step_shifted p next w s, r)

  pub spread_shifted : IsSpread old → IsSpread low
  spread_shifted h = record {
    fixed = h.fixed;
    start = h.start;
    few = h.few;
    small = h.small;
    lives = λ n l. live_is n ∙ h.lives n l;
    close = λ k w m n i j t u e. omega (arith, is m i, is n j, h.close k w m n i j (sym (live_is m) ∙ t) (sym (live_is n) ∙ u) e);
  }

-- ---- from sums to lanes and back

live_of : (sums : Sums) → sums.alive ≡ 18446744073709551615 → (n : ℕ) → n < 64 → IsTrue (alive sums n)
live_of sums e n l = ap (λ w. is_set w n) e ∙ all_live [] n l

pub low_all : (sums : Sums) (low : ℕ) → sums.alive ≡ 18446744073709551615 → ((n : ℕ) → n < 64 → IsTrue (alive sums n) → low ≤ slice_index sums.cost n) → (n : ℕ) → n < 64 → low ≤ slice_index sums.cost n
low_all sums low e h n l = h n l (live_of sums e n l)

pub high_all : (sums : Sums) (low : ℕ) → sums.alive ≡ 18446744073709551615 → IsSpread sums → HasCost sums low → (n : ℕ) → n < 64 → slice_index sums.cost n ≤ low + 49140
high_all sums low e h a n l = omega (arith, h.close 6 (lit≤ tt) n a.state l a.below (live_of sums e n l) a.lives (mod-one n ∙ sym (mod-one a.state)), a.is)

pub widened : (old : Sums) (low : List ℕ) (less : ℕ) (pairs : List CostPair) (last cost words : List ℕ) → old.alive ≡ 18446744073709551615 → ((n : ℕ) → n < 64 → slice_index low n + less ≡ slice_index old.cost n) → 0 < length pairs
    → AreSteps (all_with low) pairs (all_with last) words → cost ≡ last → AreSteps old pairs (record { cost = cost; alive = old.alive }) words
widened old low less pairs last cost words e is l h f =
    subst (λ z. AreSteps old pairs z words) (ap₂ (λ x y. record { cost = x; alive = y }) (sym f) (sym e)) (steps_shifted old (all_with low) less (sym e) is pairs (all_with last) words l h)
