-- A list of which the items before a place are right, and one more.
use Rattle.std.proofs.Common.{◌≡◌, ℕ, zero, suc, ◌+◌, ◌-◌, ◌<◌, ◌≤◌, List, [], ◌∷◌, length, get_or, set, refl, sym, subst, arith, inl, inr}
use Rattle.std.proofs.lemmas.Bool.{cases_lt}
use Rattle.std.proofs.lemmas.Grind.{get_or-set_at}
use Rattle.std.proofs.lemmas.List.{get_or-set_other}
use Rattle.track_arithmetic.specs.Numbers.{nothing}
use Rattle.track_cells.specs.Gains.{gain_of}

pub one_placed : {A : Type 0} (P : ℕ → A → Type 0) (d : A) (old : List A) (n m : ℕ) (x : A) → n < length old → m ≡ n + 1 → ((k : ℕ) → k < n → P k (get_or old k d)) → P n x → (k : ℕ) → k < m → P k (get_or (set old n x) k d)
one_placed {A} P d old n m x few e before here k lt = elim (cases_lt k n) [
  | inl less ↦ subst (P k) (sym (get_or-set_other old n k x d (λ e. omega (arith, e, less)))) (before k less)
  | inr ge ↦ let same : k ≡ n = omega (arith, ge, lt, e) in subst (P k) (sym (get_or-set_at old n k x d same few)) (subst (λ (z : ℕ). P z x) (sym same) here)
]

pub others_stay : {A : Type 0} (d : A) (old : List A) (n m : ℕ) (x : A) → m ≡ n + 1 → (k : ℕ) → m ≤ k → get_or (set old n x) k d ≡ get_or old k d
others_stay {A} d old n m x e k past = get_or-set_other old n k x d (λ same. omega (arith, same, past, e))

pub four_nothing : (n : ℕ) → gain_of (nothing ∷ nothing ∷ nothing ∷ nothing ∷ []) n ≡ nothing
four_nothing zero = refl
four_nothing (suc zero) = refl
four_nothing (suc (suc zero)) = refl
four_nothing (suc (suc (suc zero))) = refl
four_nothing (suc (suc (suc (suc n)))) = refl

-- the same for the items from a place on
pub placed_from : {A : Type 0} (P : ℕ → A → Type 0) (d : A) (old : List A) (k r : ℕ) (x : A) → k + r < length old → ((s : ℕ) → s < r → P s (get_or old (k + s) d)) → P r x → (s : ℕ) → s < r + 1 → P s (get_or (set old (k + r) x) (k + s) d)
placed_from {A} P d old k r x few before here s lt = elim (cases_lt s r) [
  | inl less ↦ subst (P s) (sym (get_or-set_other old (k + r) (k + s) x d (λ e. omega (arith, e, less)))) (before s less)
  | inr ge ↦ let same : s ≡ r = omega (arith, ge, lt) in let at : k + s ≡ k + r = omega (arith, same) in
      subst (P s) (sym (get_or-set_at old (k + r) (k + s) x d at few)) (subst (λ (z : ℕ). P z x) (sym same) here)
]

-- those below a place are right, and three more
pub three_more : {A : Type 0} (P : ℕ → A → Type 0) (d : A) (old new : List A) (k m : ℕ) → m ≡ k + 3 → ((j : ℕ) → j < k → get_or new j d ≡ get_or old j d) → ((j : ℕ) → j < k → P j (get_or old j d)) → ((r : ℕ) → r < 3 → P (k + r) (get_or new (k + r) d)) → (j : ℕ) → j < m → P j (get_or new j d)
three_more {A} P d old new k m em stay before more j lt = elim (cases_lt j k) [
  | inl less ↦ subst (P j) (sym (stay j less)) (before j less)
  | inr ge ↦ let at : k + (j - k) ≡ j = omega (arith, ge) in subst (λ (z : ℕ). P z (get_or new z d)) at (more (j - k) (omega (arith, ge, lt, em)))
]
