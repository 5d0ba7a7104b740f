-- Where the lanes hold the costs of the states in each phase.
use Rattle.std.proofs.Common.{◌≡◌, ℕ, zero, suc, ◌+◌, ◌*◌, ◌/◌, ◌%◌, ◌^◌, ◌<◌, List, get_or, true, refl, ap, ap₂, ◌∙◌, arith, eqb}
use Rattle.std.specs.Prelude.{slice_index}
use Rattle.acs_plain.specs.Spread.{IsSpread}
use Rattle.acs_lanes.specs.Lanes16.{AreClose, AreLowered, all_with, joined}
use Rattle.acs_lanes.specs.Phases.{exchanged, laid_in, place_in, way_in}
use Rattle.acs_lanes.proofs.Laid.{at_range, same_below, small_below}
use Rattle.acs_lanes.proofs.Shifts.{close_all}
use Rattle.code_paths.proofs.Registers.{all_below}

-- what holds in each phase
pub by_phase : (P : ℕ → Type 0) → P 0 → P 1 → P 2 → P 3 → P 4 → P 5 → (p : ℕ) → p < 6 → P p
by_phase P a b c d e f zero l = a
by_phase P a b c d e f (suc zero) l = b
by_phase P a b c d e f (suc (suc zero)) l = c
by_phase P a b c d e f (suc (suc (suc zero))) l = d
by_phase P a b c d e f (suc (suc (suc (suc zero)))) l = e
by_phase P a b c d e f (suc (suc (suc (suc (suc zero))))) l = f
by_phase P a b c d e f (suc (suc (suc (suc (suc (suc p)))))) l = absurd (omega arith)

pub way_in_small : (p : ℕ) → p < 6 → (k : ℕ) → k < 32 → way_in p k < 32
way_in_small =
    by_phase (λ p. (k : ℕ) → k < 32 → way_in p k < 32) (small_below 32 32 (way_in 0) refl) (small_below 32 32 (way_in 1) refl) (small_below 32 32 (way_in 2) refl)
    (small_below 32 32 (way_in 3) refl) (small_below 32 32 (way_in 4) refl) (small_below 32 32 (way_in 5) refl)

pub exchanged_small : (p : ℕ) → p < 6 → (k : ℕ) → k < 32 → exchanged p k < 32
exchanged_small =
    by_phase (λ p. (k : ℕ) → k < 32 → exchanged p k < 32) (small_below 32 32 (exchanged 0) refl) (small_below 32 32 (exchanged 1) refl) (small_below 32 32 (exchanged 2) refl)
    (small_below 32 32 (exchanged 3) refl) (small_below 32 32 (exchanged 4) refl) (small_below 32 32 (exchanged 5) refl)

pub exchanged_twice : (p : ℕ) → p < 6 → (k : ℕ) → k < 32 → exchanged p (exchanged p k) ≡ k
exchanged_twice =
    by_phase (λ p. (k : ℕ) → k < 32 → exchanged p (exchanged p k) ≡ k) (twice 0 refl) (twice 1 refl) (twice 2 refl) (twice 3 refl) (twice 4 refl) (twice 5 refl)
  where
    twice : (p : ℕ) → all_below (λ k. eqb (exchanged p (exchanged p k)) k) 32 ≡ true → (k : ℕ) → k < 32 → exchanged p (exchanged p k) ≡ k
    twice p = same_below 32 (λ k. exchanged p (exchanged p k)) (λ k. k)

pub exchanged_high : (p : ℕ) → p < 6 → (k : ℕ) → k < 32 → exchanged p (k + 32) ≡ exchanged p k + 32
exchanged_high =
    by_phase (λ p. (k : ℕ) → k < 32 → exchanged p (k + 32) ≡ exchanged p k + 32) (high 0 refl) (high 1 refl) (high 2 refl) (high 3 refl) (high 4 refl) (high 5 refl)
  where
    high : (p : ℕ) → all_below (λ k. eqb (exchanged p (k + 32)) (exchanged p k + 32)) 32 ≡ true → (k : ℕ) → k < 32 → exchanged p (k + 32) ≡ exchanged p k + 32
    high p = same_below 32 (λ k. exchanged p (k + 32)) (λ k. exchanged p k + 32)

-- which state's cost is at a place
abbrev state_by : ℕ → ℕ → ℕ → ℕ → ℕ → ℕ → ℕ
state_by e d c b a q = q / 32 + 2 * (2 ^ e * (q / 16 % 2) + 2 ^ d * (q / 8 % 2) + 2 ^ c * (q / 4 % 2) + 2 ^ b * (q / 2 % 2) + 2 ^ a * (q % 2))

abbrev pub state_in : ℕ → ℕ → ℕ
state_in zero q = state_by 3 4 0 1 2 q
state_in (suc zero) q = state_by 2 3 0 1 4 q
state_in (suc (suc zero)) q = state_by 1 2 0 3 4 q
state_in (suc (suc (suc zero))) q = state_by 0 1 2 3 4 q
state_in (suc (suc (suc (suc zero)))) q = state_by 1 0 2 3 4 q
state_in (suc (suc (suc (suc (suc p))))) q = state_by 4 0 1 2 3 q

pub state_in_small : (p : ℕ) → p < 6 → (q : ℕ) → q < 64 → state_in p q < 64
state_in_small =
    by_phase (λ p. (q : ℕ) → q < 64 → state_in p q < 64) (small_below 64 64 (state_in 0) refl) (small_below 64 64 (state_in 1) refl) (small_below 64 64 (state_in 2) refl)
    (small_below 64 64 (state_in 3) refl) (small_below 64 64 (state_in 4) refl) (small_below 64 64 (state_in 5) refl)

pub place_in_small : (p : ℕ) → p < 6 → (n : ℕ) → n < 64 → place_in p n < 64
place_in_small =
    by_phase (λ p. (n : ℕ) → n < 64 → place_in p n < 64) (small_below 64 64 (place_in 0) refl) (small_below 64 64 (place_in 1) refl) (small_below 64 64 (place_in 2) refl)
    (small_below 64 64 (place_in 3) refl) (small_below 64 64 (place_in 4) refl) (small_below 64 64 (place_in 5) refl)

pub place_of_state : (p : ℕ) → p < 6 → (q : ℕ) → q < 64 → place_in p (state_in p q) ≡ q
place_of_state =
    by_phase (λ p. (q : ℕ) → q < 64 → place_in p (state_in p q) ≡ q) (back 0 refl) (back 1 refl) (back 2 refl) (back 3 refl) (back 4 refl) (back 5 refl)
  where
    back : (p : ℕ) → all_below (λ q. eqb (place_in p (state_in p q)) q) 64 ≡ true → (q : ℕ) → q < 64 → place_in p (state_in p q) ≡ q
    back p = same_below 64 (λ q. place_in p (state_in p q)) (λ q. q)

pub even_place : (p k : ℕ) → place_in p (2 * k) ≡ way_in p k
even_place p k =
    let e : 2 * k / 2 ≡ k = omega arith in
    let f : 2 * k % 2 ≡ 0 = omega arith in
    let g : 32 * 0 + way_in p k ≡ way_in p k = omega arith in
    ap₂ (λ x y. 32 * x + way_in p y) f e ∙ g

pub odd_place : (p k : ℕ) → place_in p (2 * k + 1) ≡ 32 + way_in p k
odd_place p k =
    let e : (2 * k + 1) / 2 ≡ k = omega arith in
    let f : (2 * k + 1) % 2 ≡ 1 = omega arith in
    let g : 32 * 1 + way_in p k ≡ 32 + way_in p k = omega arith in
    ap₂ (λ x y. 32 * x + way_in p y) f e ∙ g

module _ (p : ℕ) (in6 : p < 6) (a b c d : List ℕ) where
  pub laid_in_at : (n : ℕ) → n < 64 → get_or (laid_in p a b c d) n 0 ≡ get_or (joined a b c d) (place_in p n) 0
  laid_in_at n l = at_range (λ n. slice_index (joined a b c d) (place_in p n)) 64 n refl l

  pub at_place_in : (q : ℕ) → q < 64 → get_or (laid_in p a b c d) (state_in p q) 0 ≡ get_or (joined a b c d) q 0
  at_place_in q l = laid_in_at (state_in p q) (state_in_small p in6 q l) ∙ ap (λ q. get_or (joined a b c d) q 0) (place_of_state p in6 q l)

  pub close_in : IsSpread (all_with (laid_in p a b c d)) → AreClose (joined a b c d)
  close_in h m n i j = omega (arith, close_all (laid_in p a b c d) h (state_in p m) (state_in p n) (state_in_small p in6 m i) (state_in_small p in6 n j), at_place_in m i, at_place_in n j)

pub lowered_in : (p : ℕ) → p < 6 → (a b c d e f g h : List ℕ) → AreLowered (joined a b c d) (joined e f g h) → AreLowered (laid_in p a b c d) (laid_in p e f g h)
lowered_in p in6 a b c d e f g h r = record {
  less = r.less;
  is = λ n l. omega (arith, r.is (place_in p n) (place_in_small p in6 n l), laid_in_at p in6 a b c d n l, laid_in_at p in6 e f g h n l);
  few = λ n l. omega (arith, r.few (place_in p n) (place_in_small p in6 n l), laid_in_at p in6 e f g h n l);
}
