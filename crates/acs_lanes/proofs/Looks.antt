-- One of each four states is looked at.
use Rattle.std.proofs.Common.{◌≡◌, ℕ, ◌-◌, ◌%◌, ◌<◌, ◌≤◌, Bool, true, false, true≢false, not, ◌&&◌, List, ◌++◌, length, ◌⊎◌, inl, inr, refl, sym, subst, arith, lit≤}
use Rattle.std.proofs.lemmas.Bool.{cases_lt}
use Rattle.std.proofs.lemmas.List.{get_or_append_left, get_or-append_right}
use Rattle.std.specs.Prelude.{slice_index, max, IsFalse, IsTrue}
use Rattle.acs_plain.specs.Spread.{IsSpread}
use Rattle.acs_lanes.specs.Lanes16.{AreRoomy, all_with, joined}
use Rattle.acs_lanes.specs.Phases.{laid_in, way_in}
use Rattle.acs_lanes.proofs.Laid.{small_below}
use Rattle.acs_lanes.proofs.PhaseTables.{at_place_in, state_in, state_in_small, way_in_small}
use Rattle.acs_lanes.proofs.Shifts.{all_live}

-- two vectors, of which each higher lane was looked at
module _ (x y m : List ℕ) (lx : length x ≡ 16) (is : (k : ℕ) → k < 16 → slice_index m k ≡ max (slice_index x k) (slice_index y k)) (h : (k : ℕ) → k < 16 → slice_index m k < 32768) where
  both_low : (j : ℕ) → j < 32 → slice_index (x ++ y) j < 32768
  both_low j l = go (cases_lt j 16)
    where
      go : (j < 16) ⊎ (16 ≤ j) → slice_index (x ++ y) j < 32768
      go (inl a) = omega (arith, get_or_append_left x y 0 j (omega (arith, lx, a)), is j a, h j a)
      go (inr a) =
          let b : j - 16 < 16 = omega (arith, a, l) in
          omega (arith, get_or-append_right x y 16 j 0 lx a, is (j - 16) b, h (j - 16) b)

  pub ways_low : (p : ℕ) → p < 6 → (k : ℕ) → k < 16 → slice_index (x ++ y) (way_in p k) < 32768
  ways_low p in6 k l = both_low (way_in p k) (way_in_small p in6 k (omega (arith, l)))

-- the first one alone, in the last phase
pub first_low : (x y : List ℕ) → length x ≡ 16 → ((k : ℕ) → k < 16 → slice_index x k < 32768) → (p : ℕ) → p ≡ 5 → (k : ℕ) → k < 16 → slice_index (x ++ y) (way_in p k) < 32768
first_low x y lx h p e k l = subst (λ p. slice_index (x ++ y) (way_in p k) < 32768) (sym e) low
  where
    w : way_in 5 k < 16
    w = small_below 16 16 (way_in 5) refl k l

    low : slice_index (x ++ y) (way_in 5 k) < 32768
    low = omega (arith, get_or_append_left x y 0 (way_in 5 k) (omega (arith, lx, w)), h (way_in 5 k) w)

-- states that agree in their lowest four bits are two steps apart at most
near_low : (costs : List ℕ) → IsSpread (all_with costs) → ((k : ℕ) → k < 16 → slice_index costs k < 32768) → (n : ℕ) → n < 64 → slice_index costs n ≤ 49155
near_low costs h f n l =
    let m : n % 16 < 16 = omega arith in
    let e : n % 16 ≡ n % 16 % 16 = omega arith in
    omega (arith, h.close 2 (lit≤ tt) n (n % 16) l (omega (arith, m)) (all_live costs n l) (all_live costs (n % 16) (omega (arith, m))) e, f (n % 16) m)

module _ (p : ℕ) (in6 : p < 6) (a b c d : List ℕ) where
  pub near_room : IsSpread (all_with (laid_in p a b c d)) → ((k : ℕ) → k < 16 → slice_index (laid_in p a b c d) k < 32768) → (q : ℕ) → q < 64 → slice_index (joined a b c d) q ≤ 49155
  near_room h f q l = omega (arith, near_low (laid_in p a b c d) h f (state_in p q) (state_in_small p in6 q l), at_place_in p in6 a b c d q l)

-- lanes with room stay as they are
pub roomy_low : (old : List ℕ) → ((n : ℕ) → n < 64 → slice_index old n ≤ 49155) → AreRoomy old old
roomy_low old f = record {
  lowered = record { less = 0; is = λ n l. omega arith; few = λ n l. omega (arith, f n l) };
  room = f;
}

-- what holds if a lane was not seen to be high, and if it need not be looked at
pub unless_high : (high low : Bool) (P : Type 0) → (IsFalse high → P) → (IsTrue low → P) → IsFalse (high && not low) → P
unless_high false low P f g t = f refl
unless_high true true P f g t = g refl
unless_high true false P f g t = absurd (true≢false t)
