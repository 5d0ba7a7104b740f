-- The kept changes after one symbol more.
use Rattle.std.proofs.Common.{◌≡◌, ℕ, zero, suc, [], ◌∷◌, refl, ◌+◌, ◌%◌, ◌<◌, ◌≤◌, ◌^◌, List, length, get_or, set, ap, sym, ◌∙◌, subst, arith, inl, inr}
use Rattle.std.proofs.lemmas.Bool.{cases_lt}
use Rattle.std.proofs.lemmas.Grind.{get_or-set_at}
use Rattle.std.proofs.lemmas.List.{get_or-set_other}
use Rattle.tracking.specs.Comb.{Comb, change}
use Rattle.tracking.specs.InTime.{symbol_at}
use Rattle.track_motion.specs.Kept.{AreLow, KeepsBefore, KeepsChanges}
use Rattle.track_motion.specs.Places.{HasChanges}

pub low_placed : (kept : List ℕ) (p x : ℕ) → length kept ≡ 16 → p < 16 → AreLow kept → x ≤ 2 ^ 44 → AreLow (set kept p x)
low_placed kept p x long few low most k lt = elim (cases_lt k p) [
  | inl less ↦ subst (λ (z : ℕ). z ≤ 2 ^ 44) (sym (get_or-set_other kept p k x 0 (λ e. omega (arith, e, less)))) (low k lt)
  | inr ge ↦ elim (cases_lt p k) [
    | inl more ↦ subst (λ (z : ℕ). z ≤ 2 ^ 44) (sym (get_or-set_other kept p k x 0 (λ e. omega (arith, e, more)))) (low k lt)
    | inr le ↦ let same : k ≡ p = omega (arith, ge, le) in subst (λ (z : ℕ). z ≤ 2 ^ 44) (sym (get_or-set_at kept p k x 0 same (omega (arith, long, few)))) most
  ]
]

-- the last symbol's change at its place
pub one_kept : (c : Comb) (kept : List ℕ) (last x : ℕ) → length kept ≡ 16 → last + 1 ≡ c.count → x ≡ change c last → KeepsBefore c kept → KeepsChanges c (set kept (last % 16) x)
one_kept c kept last x long e is before = record {
  is = λ t some there late. elim (cases_lt t last) [
    | inl less ↦ get_or-set_other kept (last % 16) (t % 16) x 0 (λ same. omega (arith, same, less, late, e)) ∙ before.is t some (omega (arith, less, e)) late
    | inr ge ↦ let same : t ≡ last = omega (arith, ge, there, e) in
        get_or-set_at kept (last % 16) (t % 16) x 0 (ap (λ (z : ℕ). z % 16) same) (omega (arith, long)) ∙ is ∙ sym (ap (change c) same)
  ];
}

-- the first symbol has no change
pub none_new : (c : Comb) (kept : List ℕ) → c.count ≤ 1 → KeepsChanges c kept
none_new c kept few = record { is = λ t some there late. absurd (omega (arith, few, some, there)) }

-- the kept changes by their places
pub by_places : (c : Comb) (m : ℕ) (kept changes : List ℕ) → ((p : ℕ) → p < 16 → get_or changes p 0 ≡ get_or kept ((m + p + 9) % 16) 0) → KeepsChanges c kept → m < c.count → c.count ≤ m + 8 → HasChanges c m changes
by_places c m kept changes are keeps there late = record {
  is = λ p first last.
      let t = symbol_at m p in
      let place : (m + p + 9) % 16 ≡ t % 16 = omega (arith, first) in
      are p (omega (arith, last)) ∙ ap (λ (z : ℕ). get_or kept z 0) place ∙ keeps.is t (omega (arith, first)) (omega (arith, first, last, there)) (omega (arith, first, late));
}

-- as many zeros
abbrev pub zeros : ℕ → List ℕ
zeros zero = []
zeros (suc n) = 0 ∷ zeros n

pub at_zeros : (n k : ℕ) → get_or (zeros n) k 0 ≡ 0
at_zeros zero k = refl
at_zeros (suc n) zero = refl
at_zeros (suc n) (suc k) = at_zeros n k
