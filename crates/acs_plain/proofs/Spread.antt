-- Sums stay close together.
use Rattle.std.proofs.Common.{◌≡◌, ℕ, zero, suc, ◌+◌, ◌-◌, ◌*◌, ◌/◌, ◌%◌, ◌^◌, ◌<◌, ◌≤◌, Bool, true, false, cond, not, ◌&&◌, ◌||◌, List, [], ◌∷◌, ◌++◌, refl, sym, ap, ap₂, ◌∙◌, subst, arith, ltb, eqb, lit<, lit≤, true≢false, mod-lt, mod-eq_of_lt}
use native.Mathlib.Nat.{mod-one}
use Rattle.std.proofs.Math.Nat.{pow-suc, pow-le-pow_right}
use Rattle.std.proofs.lemmas.Bool.{ltb-true, ltb-false, cond_both, eq-eqb, and_parts, and_from, agree_below, agree_below_at}
use Rattle.std.specs.Prelude.{slice_index, IsTrue}
use Rattle.code_paths.specs.declared.costs.CostPair.{CostPair}
use Rattle.acs_plain.specs.declared.sums.Sums.{Sums}
use Rattle.code_paths.specs.Paths.{step_cost, parity_x, parity_y}
use Rattle.code_paths.specs.States.{register}
use Rattle.spec_words.specs.Bits.{is_set}
use Rattle.acs_plain.specs.Spread.{IsSpread}
use Rattle.acs_plain.specs.Steps.{alive, way, takes_odd, IsStep, SomeAlive, Close}
use Rattle.code_paths.specs.States.{even_of, odd_of}
use Rattle.code_paths.proofs.Registers.{all_below, all_below_at}

pub step_small : (x : CostPair) (p : List Bool) → step_cost x p ≤ 8190
step_small x p =
    let a : cond (parity_x p) x.x1 x.x0 ≤ 4095 = cond_both (parity_x p) x.x1 x.x0 (λ z. z ≤ 4095) (λ e. x.small.x1_small) (λ e. x.small.x0_small) in
    let b : cond (parity_y p) x.y1 x.y0 ≤ 4095 = cond_both (parity_y p) x.y1 x.y0 (λ z. z ≤ 4095) (λ e. x.small.y1_small) (λ e. x.small.y0_small) in
    omega arith

-- the state before n whose oldest bit is z
abbrev pub from : ℕ → ℕ → ℕ
from z n = 2 * (n % 32) + z

-- A state before n is alive if n is in the next set and its oldest bit is the fixed one.
abbrev pub in_next : ℕ → ℕ → ℕ → Bool
in_next f s n = eqb (n % 2 ^ (f - 1)) (s / 2)

abbrev is_fixed : ℕ → ℕ → ℕ → Bool
is_fixed f s z = eqb f 0 || eqb z (s % 2)

before_table : ℕ → ℕ → ℕ → Bool
before_table f s z = agree_below (λ n. eqb (from z n % 2 ^ f) s) (λ n. in_next f s n && is_fixed f s z) 64

whole_table : Bool
whole_table = all_below (λ f. all_below (λ s. before_table f s 0 && before_table f s 1) (2 ^ f)) 7

before_at : (f s z n : ℕ) → f < 7 → s < 2 ^ f → z < 2 → n < 64 → eqb (from z n % 2 ^ f) s ≡ (in_next f s n && is_fixed f s z)
unfolding before_table whole_table
before_at f s z n i j k l = agree_below_at (λ n. eqb (from z n % 2 ^ f) s) (λ n. in_next f s n && is_fixed f s z) 64 n (go z k) l
  where
    test : whole_table ≡ true
    test = refl

    both : (before_table f s 0 && before_table f s 1) ≡ true
    both = all_below_at (λ s. before_table f s 0 && before_table f s 1) (2 ^ f) s (all_below_at (λ f. all_below (λ s. before_table f s 0 && before_table f s 1) (2 ^ f)) 7 f test i) j

    go : (z : ℕ) → z < 2 → before_table f s z ≡ true
    go zero h = (and_parts _ _ both).0
    go (suc zero) h = (and_parts _ _ both).1
    go (suc (suc z)) h = absurd (omega arith)

from_even : (n : ℕ) → from 0 n ≡ even_of n
from_even n = omega arith

one_fixed : (f s : ℕ) → (is_fixed f s 0 || is_fixed f s 1) ≡ true
one_fixed zero s = refl
one_fixed (suc f) s = go (s % 2) (mod-lt s (lit< tt))
  where
    yes_no : (b : Bool) → ((b || true) || (b || false)) ≡ true
    yes_no true = refl
    yes_no false = refl

    no_yes : (b : Bool) → ((b || false) || (b || true)) ≡ true
    no_yes true = refl
    no_yes false = refl

    go : (r : ℕ) → r < 2 → ((eqb (suc f) 0 || eqb 0 r) || (eqb (suc f) 0 || eqb 1 r)) ≡ true
    go zero h = yes_no (eqb (suc f) 0)
    go (suc zero) h = no_yes (eqb (suc f) 0)
    go (suc (suc r)) h = absurd (omega arith)

or_of_ands : (a b c : Bool) → (b || c) ≡ true → (a && b || a && c) ≡ a
or_of_ands true b c h = h
or_of_ands false b c h = refl

half_small : (f s : ℕ) → s < 2 ^ f → s / 2 < 2 ^ (f - 1)
half_small zero s h = let e : s ≡ 0 = omega arith in rw e (lit< tt)
half_small (suc f) s h = let e : suc f - 1 ≡ f = omega arith in rw e (omega (arith, pow-suc 2 f))

next_agree : (k z m n : ℕ) → k < 6 → m % 2 ^ (6 - suc k) ≡ n % 2 ^ (6 - suc k) → from z m % 2 ^ (6 - k) ≡ from z n % 2 ^ (6 - k)
next_agree zero z m n h e = omega arith
next_agree (suc zero) z m n h e = omega arith
next_agree (suc (suc zero)) z m n h e = omega arith
next_agree (suc (suc (suc zero))) z m n h e = omega arith
next_agree (suc (suc (suc (suc zero)))) z m n h e = omega arith
next_agree (suc (suc (suc (suc (suc zero))))) z m n h e = omega arith
next_agree (suc (suc (suc (suc (suc (suc k)))))) z m n h e = absurd (omega arith)

from_small : (z n : ℕ) → z < 2 → from z n < 64
from_small z n h = omega arith

pub chosen_alive : (old : Sums) (x : CostPair) (n : ℕ) (e o : Bool) → alive old (even_of n) ≡ e → alive old (odd_of n) ≡ o → (e || o) ≡ true → alive old (cond (o && (not e || ltb (way old x (odd_of n) n) (way old x (even_of n) n))) (odd_of n) (even_of n)) ≡ true
chosen_alive old x n true true p q t = cond_both (ltb (way old x (odd_of n) n) (way old x (even_of n) n)) (odd_of n) (even_of n) (λ k. alive old k ≡ true) (λ e. q) (λ e. p)
chosen_alive old x n true false p q t = p
chosen_alive old x n false true p q t = q
chosen_alive old x n false false p q t = absurd (true≢false (sym t))

chosen_even : (old : Sums) (x : CostPair) (n : ℕ) (e o t : Bool) → alive old (even_of n) ≡ e → alive old (odd_of n) ≡ o → ltb (way old x (odd_of n) n) (way old x (even_of n) n) ≡ t
    → alive old (even_of n) ≡ true → way old x (cond (o && (not e || t)) (odd_of n) (even_of n)) n ≤ way old x (even_of n) n
chosen_even old x n true true true p q r a = omega (arith, ltb-true _ _ r)
chosen_even old x n true true false p q r a = omega arith
chosen_even old x n true false t p q r a = omega arith
chosen_even old x n false o t p q r a = absurd (true≢false (sym a ∙ p))

chosen_odd : (old : Sums) (x : CostPair) (n : ℕ) (e o t : Bool) → alive old (even_of n) ≡ e → alive old (odd_of n) ≡ o → ltb (way old x (odd_of n) n) (way old x (even_of n) n) ≡ t
    → alive old (odd_of n) ≡ true → way old x (cond (o && (not e || t)) (odd_of n) (even_of n)) n ≤ way old x (odd_of n) n
chosen_odd old x n true true true p q r a = omega arith
chosen_odd old x n true true false p q r a = omega (arith, ltb-false _ _ r)
chosen_odd old x n false true t p q r a = omega arith
chosen_odd old x n e false t p q r a = absurd (true≢false (sym a ∙ q))

module _ (old : Sums) (x : CostPair) (new : Sums) (answer : ℕ) (h : IsSpread old) (s : IsStep old x new answer) where
  before_is : (z n : ℕ) → z < 2 → n < 64 → alive old (from z n) ≡ (in_next h.fixed h.start n && is_fixed h.fixed h.start z)
  before_is z n k l = h.lives (from z n) (from_small z n k) ∙ before_at h.fixed h.start z n h.few h.small k l

  pub lives_next : (n : ℕ) → n < 64 → alive new n ≡ in_next h.fixed h.start n
  lives_next n l =
      s.lives n l
      ∙ ap₂ (λ a b. a || b) (ap (alive old) (sym (from_even n)) ∙ before_is 0 n (lit< tt) l) (before_is 1 n (lit< tt) l)
      ∙ or_of_ands (in_next h.fixed h.start n) _ _ (one_fixed h.fixed h.start)

  -- the way that was taken
  abbrev taken : ℕ → ℕ
  taken n = cond (takes_odd old x n) 1 0

  taken_small : (n : ℕ) → taken n < 2
  taken_small n = cond_both (takes_odd old x n) 1 0 (λ z. z < 2) (λ e. lit< tt) (λ e. lit< tt)

  taken_from : (n : ℕ) → cond (takes_odd old x n) (odd_of n) (even_of n) ≡ from (taken n) n
  taken_from n = go (takes_odd old x n)
    where
      go : (t : Bool) → cond t (odd_of n) (even_of n) ≡ from (cond t 1 0) n
      go true = refl
      go false = sym (from_even n)

  taken_alive : (n : ℕ) → n < 64 → IsTrue (alive new n) → IsTrue (alive old (from (taken n) n))
  taken_alive n l t = subst (λ k. alive old k ≡ true) (taken_from n) (chosen_alive old x n _ _ refl refl (sym (s.lives n l) ∙ t))

  -- no alive way costs less than the one taken
  taken_least : (z n : ℕ) → z < 2 → n < 64 → IsTrue (alive old (from z n)) → way old x (from (taken n) n) n ≤ way old x (from z n) n
  taken_least zero n k l t = omega (arith, chosen_even old x n _ _ _ refl refl refl (ap (alive old) (sym (from_even n)) ∙ t), ap (λ z. way old x z n) (from_even n), ap (λ z. way old x z n) (taken_from n))
  taken_least (suc zero) n k l t = omega (arith, chosen_odd old x n _ _ _ refl refl refl t, ap (λ z. way old x z n) (taken_from n))
  taken_least (suc (suc z)) n k l t = absurd (omega arith)

  -- the way with the same oldest bit is alive
  same_alive : (z m n : ℕ) → z < 2 → m < 64 → n < 64 → IsTrue (alive new m) → IsTrue (alive old (from z n)) → IsTrue (alive old (from z m))
  same_alive z m n k i l t u = before_is z m k i ∙ and_from _ _ (sym (lives_next m i) ∙ t) (and_parts _ _ (sym (before_is z n k l) ∙ u)).1

  pub close_next : (k : ℕ) → k ≤ 6 → (m n : ℕ) → m < 64 → n < 64 → IsTrue (alive new m) → IsTrue (alive new n) → m % 2 ^ (6 - k) ≡ n % 2 ^ (6 - k) → slice_index new.cost m ≤ slice_index new.cost n + 8190 * k
  close_next zero w m n i j t u e = let q : m ≡ n = omega arith in omega (arith, ap (λ z. slice_index new.cost z) q)
  close_next (suc k) w m n i j t u e =
      let z = taken n in
      let zs = taken_small n in
      let a = taken_alive n j u in
      let b = same_alive z m n zs i j t a in
      let c = h.close k (omega arith) (from z m) (from z n) (from_small z m zs) (from_small z n zs) b a (next_agree k z m n (omega arith) e) in
      omega (
        arith,
        c,
        taken_least z m zs i b,
        s.cost m i t,
        s.cost n j u,
        ap (λ q. way old x q m) (taken_from m),
        ap (λ q. way old x q n) (taken_from n),
        step_small x (register (from z m) ++ is_set m 5 ∷ []),
      )

  pub spread_step : IsSpread new
  spread_step = record {
    fixed = h.fixed - 1;
    start = h.start / 2;
    few = omega (arith, h.few);
    small = half_small h.fixed h.start h.small;
    lives = lives_next;
    close = close_next;
  }

pub spread_close : (sums : Sums) → IsSpread sums → Close 131072 sums
spread_close sums h = record { close = λ m n i j t u. omega (arith, h.close 6 (lit≤ tt) m n i j t u (mod-one m ∙ sym (mod-one n))) }

pub spread_alive : (sums : Sums) → IsSpread sums → SomeAlive sums
spread_alive sums h =
    let l : h.start < 64 = omega (arith, h.small, pow-le-pow_right {n = 2} (lit< tt) {i = h.fixed} {j = 6} (omega (arith, h.few))) in
    record { state = h.start; below = l; lives = h.lives h.start l ∙ eq-eqb _ _ (mod-eq_of_lt h.small) }
