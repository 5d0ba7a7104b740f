-- The numbers of the sent bits, step by step.
use Rattle.std.proofs.Common.{◌≡◌, ℕ, zero, suc, ◌+◌, ◌*◌, ◌/◌, ◌%◌, ◌<◌, Some, refl, ap, subst, ◌∙◌, arith}
use Rattle.std.proofs.lemmas.Nat.{div-mul-add, mod-mul-add, div-add-mod', mod_below}
use Rattle.mode_set.specs.StreamTable.{steps_in_period}
use Rattle.mode_set.specs.declared.modes.Rate.{Rate}
use Rattle.mode_set.specs.declared.modes.Rate.TheVariants.{R1of2, R2of3, R3of4, R5of6, R7of8}
use Rattle.puncture.specs.Steps.{sent_before}
use Rattle.puncture.specs.Laws.{IsNumbered}
use Rattle.puncture.proofs.InOrder.{before, some_step}

-- what is said of step i of a period, in place of step q * k + i of a stream
abbrev pub IsNumberedAt : Rate → ℕ → ℕ → Type 0
IsNumberedAt r q i = IsNumbered r (q * steps_in_period r + i)

numbered_R1of2 : (q i : ℕ) → i < 1 → IsNumberedAt R1of2 q i
numbered_R1of2 q zero l =
    let after : sent_before R1of2 (q * 1 + 0 + 1) ≡ q * 2 + 2 = (let same : q * 1 + 0 + 1 ≡ (q + 1) * 1 + 0 = omega arith in let bits : (q + 1) * 2 + 0 ≡ q * 2 + 2 = omega arith in ap (sent_before R1of2) same ∙ (before R1of2 (q + 1) 0 (omega arith) ∙ bits)) in
    record { x = rw (div-mul-add q 1 0 l, mod-mul-add q 1 0 l) (ap Some (omega arith)); y = rw (div-mul-add q 1 0 l, mod-mul-add q 1 0 l) (ap Some (omega arith)); grows = rw (after, div-mul-add q 1 0 l, mod-mul-add q 1 0 l) (omega arith); some = rw (mod-mul-add q 1 0 l) refl }
numbered_R1of2 q (suc i) l = absurd (omega arith)

numbered_R2of3 : (q i : ℕ) → i < 2 → IsNumberedAt R2of3 q i
numbered_R2of3 q zero l =
    let after : sent_before R2of3 (q * 2 + 0 + 1) ≡ q * 3 + 2 = (let same : q * 2 + 0 + 1 ≡ q * 2 + 1 = omega arith in ap (sent_before R2of3) same ∙ before R2of3 q 1 (omega arith)) in
    record { x = rw (div-mul-add q 2 0 l, mod-mul-add q 2 0 l) (ap Some (omega arith)); y = rw (div-mul-add q 2 0 l, mod-mul-add q 2 0 l) (ap Some (omega arith)); grows = rw (after, div-mul-add q 2 0 l, mod-mul-add q 2 0 l) (omega arith); some = rw (mod-mul-add q 2 0 l) refl }
numbered_R2of3 q (suc zero) l =
    let after : sent_before R2of3 (q * 2 + 1 + 1) ≡ q * 3 + 3 = (let same : q * 2 + 1 + 1 ≡ (q + 1) * 2 + 0 = omega arith in let bits : (q + 1) * 3 + 0 ≡ q * 3 + 3 = omega arith in ap (sent_before R2of3) same ∙ (before R2of3 (q + 1) 0 (omega arith) ∙ bits)) in
    record { x = rw (div-mul-add q 2 1 l, mod-mul-add q 2 1 l) (refl); y = rw (div-mul-add q 2 1 l, mod-mul-add q 2 1 l) (ap Some (omega arith)); grows = rw (after, div-mul-add q 2 1 l, mod-mul-add q 2 1 l) (omega arith); some = rw (mod-mul-add q 2 1 l) refl }
numbered_R2of3 q (suc (suc i)) l = absurd (omega arith)

numbered_R3of4 : (q i : ℕ) → i < 3 → IsNumberedAt R3of4 q i
numbered_R3of4 q zero l =
    let after : sent_before R3of4 (q * 3 + 0 + 1) ≡ q * 4 + 2 = (let same : q * 3 + 0 + 1 ≡ q * 3 + 1 = omega arith in ap (sent_before R3of4) same ∙ before R3of4 q 1 (omega arith)) in
    record { x = rw (div-mul-add q 3 0 l, mod-mul-add q 3 0 l) (ap Some (omega arith)); y = rw (div-mul-add q 3 0 l, mod-mul-add q 3 0 l) (ap Some (omega arith)); grows = rw (after, div-mul-add q 3 0 l, mod-mul-add q 3 0 l) (omega arith); some = rw (mod-mul-add q 3 0 l) refl }
numbered_R3of4 q (suc zero) l =
    let after : sent_before R3of4 (q * 3 + 1 + 1) ≡ q * 4 + 3 = (let same : q * 3 + 1 + 1 ≡ q * 3 + 2 = omega arith in ap (sent_before R3of4) same ∙ before R3of4 q 2 (omega arith)) in
    record { x = rw (div-mul-add q 3 1 l, mod-mul-add q 3 1 l) (refl); y = rw (div-mul-add q 3 1 l, mod-mul-add q 3 1 l) (ap Some (omega arith)); grows = rw (after, div-mul-add q 3 1 l, mod-mul-add q 3 1 l) (omega arith); some = rw (mod-mul-add q 3 1 l) refl }
numbered_R3of4 q (suc (suc zero)) l =
    let after : sent_before R3of4 (q * 3 + 2 + 1) ≡ q * 4 + 4 = (let same : q * 3 + 2 + 1 ≡ (q + 1) * 3 + 0 = omega arith in let bits : (q + 1) * 4 + 0 ≡ q * 4 + 4 = omega arith in ap (sent_before R3of4) same ∙ (before R3of4 (q + 1) 0 (omega arith) ∙ bits)) in
    record { x = rw (div-mul-add q 3 2 l, mod-mul-add q 3 2 l) (ap Some (omega arith)); y = rw (div-mul-add q 3 2 l, mod-mul-add q 3 2 l) (refl); grows = rw (after, div-mul-add q 3 2 l, mod-mul-add q 3 2 l) (omega arith); some = rw (mod-mul-add q 3 2 l) refl }
numbered_R3of4 q (suc (suc (suc i))) l = absurd (omega arith)

numbered_R5of6 : (q i : ℕ) → i < 5 → IsNumberedAt R5of6 q i
numbered_R5of6 q zero l =
    let after : sent_before R5of6 (q * 5 + 0 + 1) ≡ q * 6 + 2 = (let same : q * 5 + 0 + 1 ≡ q * 5 + 1 = omega arith in ap (sent_before R5of6) same ∙ before R5of6 q 1 (omega arith)) in
    record { x = rw (div-mul-add q 5 0 l, mod-mul-add q 5 0 l) (ap Some (omega arith)); y = rw (div-mul-add q 5 0 l, mod-mul-add q 5 0 l) (ap Some (omega arith)); grows = rw (after, div-mul-add q 5 0 l, mod-mul-add q 5 0 l) (omega arith); some = rw (mod-mul-add q 5 0 l) refl }
numbered_R5of6 q (suc zero) l =
    let after : sent_before R5of6 (q * 5 + 1 + 1) ≡ q * 6 + 3 = (let same : q * 5 + 1 + 1 ≡ q * 5 + 2 = omega arith in ap (sent_before R5of6) same ∙ before R5of6 q 2 (omega arith)) in
    record { x = rw (div-mul-add q 5 1 l, mod-mul-add q 5 1 l) (refl); y = rw (div-mul-add q 5 1 l, mod-mul-add q 5 1 l) (ap Some (omega arith)); grows = rw (after, div-mul-add q 5 1 l, mod-mul-add q 5 1 l) (omega arith); some = rw (mod-mul-add q 5 1 l) refl }
numbered_R5of6 q (suc (suc zero)) l =
    let after : sent_before R5of6 (q * 5 + 2 + 1) ≡ q * 6 + 4 = (let same : q * 5 + 2 + 1 ≡ q * 5 + 3 = omega arith in ap (sent_before R5of6) same ∙ before R5of6 q 3 (omega arith)) in
    record { x = rw (div-mul-add q 5 2 l, mod-mul-add q 5 2 l) (ap Some (omega arith)); y = rw (div-mul-add q 5 2 l, mod-mul-add q 5 2 l) (refl); grows = rw (after, div-mul-add q 5 2 l, mod-mul-add q 5 2 l) (omega arith); some = rw (mod-mul-add q 5 2 l) refl }
numbered_R5of6 q (suc (suc (suc zero))) l =
    let after : sent_before R5of6 (q * 5 + 3 + 1) ≡ q * 6 + 5 = (let same : q * 5 + 3 + 1 ≡ q * 5 + 4 = omega arith in ap (sent_before R5of6) same ∙ before R5of6 q 4 (omega arith)) in
    record { x = rw (div-mul-add q 5 3 l, mod-mul-add q 5 3 l) (refl); y = rw (div-mul-add q 5 3 l, mod-mul-add q 5 3 l) (ap Some (omega arith)); grows = rw (after, div-mul-add q 5 3 l, mod-mul-add q 5 3 l) (omega arith); some = rw (mod-mul-add q 5 3 l) refl }
numbered_R5of6 q (suc (suc (suc (suc zero)))) l =
    let after : sent_before R5of6 (q * 5 + 4 + 1) ≡ q * 6 + 6 = (let same : q * 5 + 4 + 1 ≡ (q + 1) * 5 + 0 = omega arith in let bits : (q + 1) * 6 + 0 ≡ q * 6 + 6 = omega arith in ap (sent_before R5of6) same ∙ (before R5of6 (q + 1) 0 (omega arith) ∙ bits)) in
    record { x = rw (div-mul-add q 5 4 l, mod-mul-add q 5 4 l) (ap Some (omega arith)); y = rw (div-mul-add q 5 4 l, mod-mul-add q 5 4 l) (refl); grows = rw (after, div-mul-add q 5 4 l, mod-mul-add q 5 4 l) (omega arith); some = rw (mod-mul-add q 5 4 l) refl }
numbered_R5of6 q (suc (suc (suc (suc (suc i))))) l = absurd (omega arith)

numbered_R7of8 : (q i : ℕ) → i < 7 → IsNumberedAt R7of8 q i
numbered_R7of8 q zero l =
    let after : sent_before R7of8 (q * 7 + 0 + 1) ≡ q * 8 + 2 = (let same : q * 7 + 0 + 1 ≡ q * 7 + 1 = omega arith in ap (sent_before R7of8) same ∙ before R7of8 q 1 (omega arith)) in
    record { x = rw (div-mul-add q 7 0 l, mod-mul-add q 7 0 l) (ap Some (omega arith)); y = rw (div-mul-add q 7 0 l, mod-mul-add q 7 0 l) (ap Some (omega arith)); grows = rw (after, div-mul-add q 7 0 l, mod-mul-add q 7 0 l) (omega arith); some = rw (mod-mul-add q 7 0 l) refl }
numbered_R7of8 q (suc zero) l =
    let after : sent_before R7of8 (q * 7 + 1 + 1) ≡ q * 8 + 3 = (let same : q * 7 + 1 + 1 ≡ q * 7 + 2 = omega arith in ap (sent_before R7of8) same ∙ before R7of8 q 2 (omega arith)) in
    record { x = rw (div-mul-add q 7 1 l, mod-mul-add q 7 1 l) (refl); y = rw (div-mul-add q 7 1 l, mod-mul-add q 7 1 l) (ap Some (omega arith)); grows = rw (after, div-mul-add q 7 1 l, mod-mul-add q 7 1 l) (omega arith); some = rw (mod-mul-add q 7 1 l) refl }
numbered_R7of8 q (suc (suc zero)) l =
    let after : sent_before R7of8 (q * 7 + 2 + 1) ≡ q * 8 + 4 = (let same : q * 7 + 2 + 1 ≡ q * 7 + 3 = omega arith in ap (sent_before R7of8) same ∙ before R7of8 q 3 (omega arith)) in
    record { x = rw (div-mul-add q 7 2 l, mod-mul-add q 7 2 l) (refl); y = rw (div-mul-add q 7 2 l, mod-mul-add q 7 2 l) (ap Some (omega arith)); grows = rw (after, div-mul-add q 7 2 l, mod-mul-add q 7 2 l) (omega arith); some = rw (mod-mul-add q 7 2 l) refl }
numbered_R7of8 q (suc (suc (suc zero))) l =
    let after : sent_before R7of8 (q * 7 + 3 + 1) ≡ q * 8 + 5 = (let same : q * 7 + 3 + 1 ≡ q * 7 + 4 = omega arith in ap (sent_before R7of8) same ∙ before R7of8 q 4 (omega arith)) in
    record { x = rw (div-mul-add q 7 3 l, mod-mul-add q 7 3 l) (refl); y = rw (div-mul-add q 7 3 l, mod-mul-add q 7 3 l) (ap Some (omega arith)); grows = rw (after, div-mul-add q 7 3 l, mod-mul-add q 7 3 l) (omega arith); some = rw (mod-mul-add q 7 3 l) refl }
numbered_R7of8 q (suc (suc (suc (suc zero)))) l =
    let after : sent_before R7of8 (q * 7 + 4 + 1) ≡ q * 8 + 6 = (let same : q * 7 + 4 + 1 ≡ q * 7 + 5 = omega arith in ap (sent_before R7of8) same ∙ before R7of8 q 5 (omega arith)) in
    record { x = rw (div-mul-add q 7 4 l, mod-mul-add q 7 4 l) (ap Some (omega arith)); y = rw (div-mul-add q 7 4 l, mod-mul-add q 7 4 l) (refl); grows = rw (after, div-mul-add q 7 4 l, mod-mul-add q 7 4 l) (omega arith); some = rw (mod-mul-add q 7 4 l) refl }
numbered_R7of8 q (suc (suc (suc (suc (suc zero))))) l =
    let after : sent_before R7of8 (q * 7 + 5 + 1) ≡ q * 8 + 7 = (let same : q * 7 + 5 + 1 ≡ q * 7 + 6 = omega arith in ap (sent_before R7of8) same ∙ before R7of8 q 6 (omega arith)) in
    record { x = rw (div-mul-add q 7 5 l, mod-mul-add q 7 5 l) (refl); y = rw (div-mul-add q 7 5 l, mod-mul-add q 7 5 l) (ap Some (omega arith)); grows = rw (after, div-mul-add q 7 5 l, mod-mul-add q 7 5 l) (omega arith); some = rw (mod-mul-add q 7 5 l) refl }
numbered_R7of8 q (suc (suc (suc (suc (suc (suc zero)))))) l =
    let after : sent_before R7of8 (q * 7 + 6 + 1) ≡ q * 8 + 8 = (let same : q * 7 + 6 + 1 ≡ (q + 1) * 7 + 0 = omega arith in let bits : (q + 1) * 8 + 0 ≡ q * 8 + 8 = omega arith in ap (sent_before R7of8) same ∙ (before R7of8 (q + 1) 0 (omega arith) ∙ bits)) in
    record { x = rw (div-mul-add q 7 6 l, mod-mul-add q 7 6 l) (ap Some (omega arith)); y = rw (div-mul-add q 7 6 l, mod-mul-add q 7 6 l) (refl); grows = rw (after, div-mul-add q 7 6 l, mod-mul-add q 7 6 l) (omega arith); some = rw (mod-mul-add q 7 6 l) refl }
numbered_R7of8 q (suc (suc (suc (suc (suc (suc (suc i))))))) l = absurd (omega arith)

numbered_in : (r : Rate) (q i : ℕ) → i < steps_in_period r → IsNumberedAt r q i
numbered_in R1of2 = numbered_R1of2
numbered_in R2of3 = numbered_R2of3
numbered_in R3of4 = numbered_R3of4
numbered_in R5of6 = numbered_R5of6
numbered_in R7of8 = numbered_R7of8

pub numbered : (r : Rate) (t : ℕ) → IsNumbered r t
numbered r t = subst (IsNumbered r) (div-add-mod' t (steps_in_period r)) (numbered_in r (t / steps_in_period r) (t % steps_in_period r) (mod_below t (steps_in_period r) (some_step r)))
