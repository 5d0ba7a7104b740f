-- The outcome is determined by the word.
use Rattle.std.proofs.Common.{◌≡◌, ℕ, Bool, cond, List, [], ◌∷◌, length, refl, sym, ap, ◌∙◌, arith}
use Rattle.std.proofs.lemmas.Bool.{eq-eqb}
use Rattle.rs204.specs.Codes.{IsCodeword, distance}
use Rattle.rs204.specs.Decoded.{Decoded, IsFar, IsNearBy}
use Rattle.rs204.specs.declared.outcome.Outcome.{Outcome}
use Rattle.rs204.specs.declared.outcome.Outcome.TheVariants.{Clean, Corrected, Bad}
use Rattle.rs204.proofs.Codewords.{one_near}

abbrev differs : Bool → ℕ
differs b = cond b 0 1

distance_self : (w : List ℕ) → distance w w ≡ 0
distance_self [] = refl
distance_self (a ∷ w) = omega (arith, ap differs (eq-eqb a a refl), distance_self w)

pub clean_only : (old new : List ℕ) (outcome : Outcome) → Decoded old new outcome → IsCodeword old → outcome ≡ Clean
clean_only old new Clean d h = refl
clean_only old new (Corrected n) d h =
    let same : old ≡ new = one_near old old new h.long h d.0 (omega (arith, distance_self old)) (omega (arith, d.1, d.3)) in
    absurd (omega (arith, d.1, d.2, distance_self old, ap (distance old) same))
clean_only old new Bad d h = absurd (omega (arith, d.1 old h, distance_self old))

abbrev Corrects : List ℕ → Outcome → ℕ → List ℕ → Type 0
Corrects new outcome n c = (outcome ≡ Corrected n) × (new ≡ c)

pub corrected_only : (old new : List ℕ) (outcome : Outcome) → length old ≡ 204 → Decoded old new outcome → (n : ℕ) (c : List ℕ) → IsNearBy old n c → Corrects new outcome n c
corrected_only old new Clean l d n c h =
    let same : old ≡ c = one_near old old c l d.0 h.code (omega (arith, distance_self old)) (omega (arith, h.apart, h.few)) in
    absurd (omega (arith, h.apart, h.some, distance_self old, ap (distance old) same))
corrected_only old new (Corrected m) l d n c h =
    let same : new ≡ c = one_near old new c l d.0 h.code (omega (arith, d.1, d.3)) (omega (arith, h.apart, h.few)) in
    (ap Corrected (sym d.1 ∙ ap (distance old) same ∙ h.apart), same)
corrected_only old new Bad l d n c h = absurd (omega (arith, d.1 c h.code, h.apart, h.few))

pub bad_only : (old new : List ℕ) (outcome : Outcome) → Decoded old new outcome → IsFar old → outcome ≡ Bad
bad_only old new Clean d h = absurd (omega (arith, h old d.0, distance_self old))
bad_only old new (Corrected n) d h = absurd (omega (arith, h new d.0, d.1, d.3))
bad_only old new Bad d h = refl
