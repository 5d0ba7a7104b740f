-- The costs of a step are those of its bits among the sent ones.
use Rattle.std.proofs.Common.{◌≡◌, ℕ, ◌+◌, Bool, true, false, if◌then◌else◌, Some, None, refl, ap, ◌∙◌, arith}
use Rattle.std.proofs.Math.Nat.{mod-mod}
use Rattle.mode_set.specs.StreamTable.{steps_in_period}
use Rattle.mode_set.specs.declared.modes.Rate.{Rate}
use Rattle.puncture.specs.SentBits.{Coded, X, Y}
use Rattle.puncture.specs.Steps.{is_sent, number_of, sent_before, needed, costs_at, Place, IsAtStep}
use Rattle.puncture.proofs.Numbered.{numbered}

x_case : (costs : ℕ → ℕ × ℕ) (sx : Bool) (n : ℕ) (first : ℕ × ℕ) → first ≡ costs n → (if sx then first else (0, 0)) ≡ costs_at costs (if sx then Some n else None)
x_case costs true n first e = e
x_case costs false n first e = refl

y_case : (costs : ℕ → ℕ × ℕ) (sx sy : Bool) (n : ℕ) (first second : ℕ × ℕ) → first ≡ costs n → ((if sx then 1 else 0) + (if sy then 1 else 0) ≡ 2 → second ≡ costs (n + 1))
    → (if sy then (if sx then second else first) else (0, 0)) ≡ costs_at costs (if sy then Some (n + (if sx then 1 else 0)) else None)
y_case costs true true n first second e f = f refl
y_case costs false true n first second e f = e ∙ ap costs (omega arith)
y_case costs sx false n first second e f = refl

-- what is sent at a place is what is sent of the step
sent_at : (p : Place) (r : Rate) (xy : ℕ → Coded) (t : ℕ) → IsAtStep p r t → is_sent p.rate xy p.step ≡ is_sent r xy t
sent_at p r xy t at = rw (at.step, at.rate, mod-mod t (steps_in_period r)) refl

module _ (p : Place) (r : Rate) (costs : ℕ → ℕ × ℕ) (t : ℕ) (at : IsAtStep p r t) (first second : ℕ × ℕ) (e : first ≡ costs (sent_before r t)) where
  pub x_costs : (sx : Bool) → sx ≡ is_sent p.rate X p.step → (if sx then first else (0, 0)) ≡ costs_at costs (number_of r X t)
  x_costs sx is = rw (is, sent_at p r X t at, (numbered r t).x) (x_case costs (is_sent r X t) (sent_before r t) first e)

  pub y_costs : (sx sy : Bool) → sx ≡ is_sent p.rate X p.step → sy ≡ is_sent p.rate Y p.step → (needed r t ≡ 2 → second ≡ costs (sent_before r t + 1))
      → (if sy then (if sx then second else first) else (0, 0)) ≡ costs_at costs (number_of r Y t)
  y_costs sx sy is_x is_y f = rw (is_x, is_y, sent_at p r X t at, sent_at p r Y t at, (numbered r t).y) (y_case costs (is_sent r X t) (is_sent r Y t) (sent_before r t) first second e f)
