-- Where the lanes hold the costs of the states, and the costs in the order of states.
use Rattle.std.proofs.Common.{◌≡◌, ℕ, zero, suc, ◌+◌, ◌*◌, ◌<◌, List, map, length, get_or, true, refl, sym, ap, ◌∙◌, arith, eqb, ltb}
use Rattle.std.proofs.lemmas.Bool.{eqb-true, ltb-true}
use Rattle.std.specs.Prelude.{slice_index}
use Rattle.std.specs.List.{range_with_len}
use Rattle.code_paths.proofs.Registers.{all_below, all_below_at}
use Rattle.acs_plain.specs.Spread.{IsSpread}
use Rattle.acs_lanes.specs.Lanes16.{AreClose, AreLowered, all_with, joined, laid, place, state_at, way}
use Rattle.acs_lanes.proofs.LaneLaws.{at_map}
use Rattle.acs_lanes.proofs.Quarters.{same_64}
use Rattle.acs_lanes.proofs.Shifts.{close_all}

-- ---- tables

range_from : (a n k : ℕ) → k < n → get_or (range_with_len a n) k 0 ≡ a + k
range_from a zero k l = absurd (omega arith)
range_from a (suc n) zero l = omega arith
range_from a (suc n) (suc k) l = omega (arith, range_from (a + 1) n k (omega arith))

pub range_at : (n k : ℕ) → k < n → get_or (range_with_len 0 n) k 0 ≡ k
range_at n k l = omega (arith, range_from 0 n k l)

pub same_below : (n : ℕ) (f g : ℕ → ℕ) → all_below (λ k. eqb (f k) (g k)) n ≡ true → (k : ℕ) → k < n → f k ≡ g k
same_below n f g t k l = eqb-true (f k) (g k) (all_below_at (λ k. eqb (f k) (g k)) n k t l)

pub small_below : (n m : ℕ) (f : ℕ → ℕ) → all_below (λ k. ltb (f k) m) n ≡ true → (k : ℕ) → k < n → f k < m
small_below n m f t k l = ltb-true (f k) m (all_below_at (λ k. ltb (f k) m) n k t l)

pub way_small : (k : ℕ) → k < 32 → way k < 32
way_small = small_below 32 32 way refl

pub place_small : (n : ℕ) → n < 64 → place n < 64
place_small = small_below 64 64 place refl

pub state_small : (p : ℕ) → p < 64 → state_at p < 64
state_small = small_below 64 64 state_at refl

pub place_state : (p : ℕ) → p < 64 → place (state_at p) ≡ p
place_state = same_below 64 (λ p. place (state_at p)) (λ p. p) refl

pub state_place : (n : ℕ) → n < 64 → state_at (place n) ≡ n
state_place = same_below 64 (λ n. state_at (place n)) (λ n. n) refl

pub place_even : (k : ℕ) → k < 32 → place (2 * k) ≡ way k
place_even = same_below 32 (λ k. place (2 * k)) way refl

pub place_odd : (k : ℕ) → k < 32 → place (2 * k + 1) ≡ 32 + way k
place_odd = same_below 32 (λ k. place (2 * k + 1)) (λ k. 32 + way k) refl

-- ---- the costs in the order of states

pub at_range : (f : ℕ → ℕ) (n k : ℕ) → length (range_with_len 0 n) ≡ n → k < n → get_or (map f (range_with_len 0 n)) k 0 ≡ f k
at_range f n k e l = at_map f (range_with_len 0 n) k (omega (arith, e)) ∙ ap f (range_at n k l)

module _ (a b c d : List ℕ) where
  pub laid_at : (n : ℕ) → n < 64 → get_or (laid a b c d) n 0 ≡ get_or (joined a b c d) (place n) 0
  laid_at n l = at_range (λ n. slice_index (joined a b c d) (place n)) 64 n refl l

  pub at_place : (p : ℕ) → p < 64 → get_or (laid a b c d) (state_at p) 0 ≡ get_or (joined a b c d) p 0
  at_place p l = laid_at (state_at p) (state_small p l) ∙ ap (λ q. get_or (joined a b c d) q 0) (place_state p l)

  pub close_lanes : IsSpread (all_with (laid a b c d)) → AreClose (joined a b c d)
  close_lanes h m n i j = omega (arith, close_all (laid a b c d) h (state_at m) (state_at n) (state_small m i) (state_small n j), at_place m i, at_place n j)

pub laid_lowered : (a b c d e f g h : List ℕ) → AreLowered (joined a b c d) (joined e f g h) → AreLowered (laid a b c d) (laid e f g h)
laid_lowered a b c d e f g h r = record {
  less = r.less;
  is = λ n l. omega (arith, r.is (place n) (place_small n l), laid_at a b c d n l, laid_at e f g h n l);
  few = λ n l. omega (arith, r.few (place n) (place_small n l), laid_at e f g h n l);
}

-- the lanes of costs that are less by a number
pub laid_less : (a b c d costs : List ℕ) (low : ℕ) → ((p : ℕ) → p < 64 → slice_index (joined a b c d) p + low ≡ slice_index costs (state_at p)) → (n : ℕ) → n < 64 → slice_index (laid a b c d) n + low ≡ slice_index costs n
laid_less a b c d costs low h n l = omega (arith, laid_at a b c d n l, h (place n) (place_small n l), ap (λ m. get_or costs m 0) (state_place n l))

pub laid_all : (a b c d costs : List ℕ) → length costs ≡ 64 → ((n : ℕ) → n < 64 → slice_index costs n ≡ slice_index (joined a b c d) (place n)) → costs ≡ laid a b c d
laid_all a b c d costs e h = same_64 costs (laid a b c d) e refl (λ n l. h n l ∙ sym (laid_at a b c d n l))
