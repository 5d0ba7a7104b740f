-- Each fourth item of a list, from one below 4 on.
use Rattle.std.proofs.Common.{◌≡◌, ℕ, ◌+◌, ◌*◌, ◌%◌, ◌<◌, List, length, get_or, set, sym, subst, arith, inl, inr}
use Rattle.std.proofs.lemmas.Bool.{cases_lt}
use Rattle.std.proofs.lemmas.Grind.{get_or-set_at}
use Rattle.std.proofs.lemmas.List.{get_or-set_other}

pub fourth_placed : {X : Type 0} (P : ℕ → X → Type 0) (d : X) (xs : List X) (first q : ℕ) (v : X) → first + 4 * q < length xs → first < 4 → ((k : ℕ) → k < first + 4 * q → k % 4 ≡ first → P k (get_or xs k d)) → P (first + 4 * q) v
    → (k : ℕ) → k < first + 4 * (q + 1) → k % 4 ≡ first → P k (get_or (set xs (first + 4 * q) v) k d)
fourth_placed {X} P d xs first q v h few old new k lt e = elim (cases_lt k (first + 4 * q)) [
  | inl less ↦ subst (P k) (sym (get_or-set_other xs (first + 4 * q) k v d (λ same. omega (arith, same, less)))) (old k less e)
  | inr ge ↦ let same : k ≡ first + 4 * q = omega (arith, ge, lt, e, few) in
      subst (P k) (sym (get_or-set_at xs (first + 4 * q) k v d same h)) (subst (λ (z : ℕ). P z v) (sym same) new)
]
