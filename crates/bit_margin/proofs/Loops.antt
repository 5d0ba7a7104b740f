-- The invariants of the loops over the states.
use Rattle.std.proofs.Common.{◌≡◌, ℕ, ◌+◌, ◌<◌, ◌≤◌, min, List, ◌⊎◌, inl, inr, sym, subst, arith, below_more, slice_index, true, eqb, ◌||◌}
use Rattle.std.proofs.lemmas.Bool.{cases_lt, eqb-true, or_cases}
use Rattle.code_paths.proofs.Registers.{all_below, all_below_at}
use Rattle.bit_margin.specs.Sums.{IsLeastOf, AreStartCosts, far}
use Rattle.inner_decoder.specs.declared.decoder.StartState.{StartState}
use Rattle.inner_decoder.specs.declared.decoder.StartState.TheVariants.{Zero, Any}

pub least_first : (f : ℕ → ℕ) (m : ℕ) → m ≡ f 0 → IsLeastOf f 1 m
least_first f m e = record {
  place = 0;
  within = omega arith;
  is = sym e;
  least = λ k l. let z : k ≡ 0 = omega arith in rw z (omega (arith, e));
}

pub least_more : (f : ℕ → ℕ) (n m v r : ℕ) → IsLeastOf f n m → r ≡ min m v → v ≡ f n → IsLeastOf f (n + 1) r
least_more f n m v r h q e = subst (IsLeastOf f (n + 1)) (sym q) (go (cases_lt m v))
  where
    least : (k : ℕ) → k < n + 1 → min m v ≤ f k
    least = below_more (λ k. min m v ≤ f k) n (λ k l. omega (arith, h.least k l)) (omega (arith, e))

    go : (m < v) ⊎ (v ≤ m) → IsLeastOf f (n + 1) (min m v)
    go (inl l) = record { place = h.place; within = omega (arith, h.within); is = omega (arith, h.is); least = least }
    go (inr l) = record { place = n; within = omega arith; is = omega (arith, e); least = least }

pub start_zero : (s : StartState) (xs : List ℕ) → s ≡ Zero → slice_index xs 0 ≡ 0 → ((n : ℕ) → 0 < n → n < 64 → slice_index xs n ≡ far) → AreStartCosts s xs
start_zero s xs e z f = subst (λ (t : StartState). AreStartCosts t xs) (sym e) (z, f)

pub start_any : (s : StartState) (xs : List ℕ) → s ≡ Any → ((n : ℕ) → n < 64 → slice_index xs n ≡ 0) → AreStartCosts s xs
start_any s xs e f = subst (λ (t : StartState). AreStartCosts t xs) (sym e) f

pub others_at : (xs : List ℕ) → all_below (λ n. eqb n 0 || eqb (slice_index xs n) far) 64 ≡ true → (n : ℕ) → 0 < n → n < 64 → slice_index xs n ≡ far
others_at xs h n p l = go (or_cases (eqb n 0) (eqb (slice_index xs n) far) (all_below_at (λ n. eqb n 0 || eqb (slice_index xs n) far) 64 n h l))
  where
    go : (eqb n 0 ≡ true) ⊎ (eqb (slice_index xs n) far ≡ true) → slice_index xs n ≡ far
    go (inl e) = absurd (omega (arith, eqb-true n 0 e))
    go (inr e) = eqb-true (slice_index xs n) far e

pub zeros_at : (xs : List ℕ) → all_below (λ n. eqb (slice_index xs n) 0) 64 ≡ true → (n : ℕ) → n < 64 → slice_index xs n ≡ 0
zeros_at xs h n l = eqb-true (slice_index xs n) 0 (all_below_at (λ n. eqb (slice_index xs n) 0) 64 n h l)
