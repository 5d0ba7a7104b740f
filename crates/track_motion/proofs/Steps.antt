-- One item more of a list that is filled from its front.
use Rattle.std.proofs.Common.{◌≡◌, ℕ, ◌+◌, ◌<◌, List, length, get_or, set, refl, sym, subst, arith, inl, inr}
use Rattle.std.proofs.lemmas.Bool.{cases_lt}
use Rattle.std.proofs.lemmas.Grind.{get_or-set_at}
use Rattle.std.proofs.lemmas.List.{get_or-set_other}

pub set_below : {X : Type 0} (P : ℕ → X → Type 0) (d : X) (xs : List X) (p : ℕ) (v : X) → p < length xs → ((k : ℕ) → k < p → P k (get_or xs k d)) → P p v → (k : ℕ) → k < p + 1 → P k (get_or (set xs p v) k d)
set_below {X} P d xs p v h old new k lt = elim (cases_lt k p) [
  | inl less ↦ subst (P k) (sym (get_or-set_other xs p k v d (λ e. omega (arith, e, less)))) (old k less)
  | inr ge ↦
      let e : k ≡ p = omega (arith, ge, lt) in
      let here : P p (get_or (set xs p v) p d) = subst (P p) (sym (get_or-set_at xs p p v d refl h)) new in
      let Q : ℕ → Type 0 = λ z. P z (get_or (set xs p v) z d) in
      subst Q (sym e) here
]
