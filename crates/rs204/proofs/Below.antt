-- Tests of all numbers below a bound.
use Rattle.std.proofs.Common.{◌≡◌, ℕ, zero, suc, ◌<◌, ◌≤◌, ◌⊎◌, inl, inr, Bool, true, ◌&&◌, arith}
use Rattle.std.proofs.lemmas.Bool.{and_parts, cases_lt}

abbrev pub all_below : (ℕ → Bool) → ℕ → Bool
all_below t zero = true
all_below t (suc n) = t n && all_below t n

pub all_below_at : (t : ℕ → Bool) (n k : ℕ) → all_below t n ≡ true → k < n → t k ≡ true
all_below_at t zero k h l = absurd (omega arith)
all_below_at t (suc n) k h l = go (cases_lt k n) (all_below_at t n k (and_parts _ _ h).1)
  where
    go : (k < n) ⊎ (n ≤ k) → (k < n → t k ≡ true) → t k ≡ true
    go (inl m) f = f m
    go (inr m) f = let e : k ≡ n = omega arith in rw e (and_parts _ _ h).0
