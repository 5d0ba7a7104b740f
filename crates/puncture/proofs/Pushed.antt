-- A puncturer at a step sends that step's bits.
use Rattle.std.proofs.Common.{◌≡◌, ℕ, ◌+◌, ◌%◌, Bool, refl, ◌∙◌}
use Rattle.std.proofs.Math.Nat.{mod-mod}
use Rattle.code_paths.specs.Paths.{parity_x, parity_y}
use Rattle.mode_set.specs.StreamTable.{steps_in_period}
use Rattle.mode_set.specs.declared.modes.Rate.{Rate}
use Rattle.puncture.specs.SentBits.{X, Y, window, sent_bits}
use Rattle.puncture.specs.Steps.{is_sent, bits_sent, bits_of_step, sent_before, Place, IsAtStep}
use Rattle.puncture.proofs.InOrder.{in_order}

-- a step's bits go by its place in the period
pub in_place : (r : Rate) (t : ℕ) (x y : Bool) → bits_of_step r (t % steps_in_period r) x y ≡ bits_of_step r t x y
in_place r t x y = rw (mod-mod t (steps_in_period r)) refl

pub next_sent : (p : Place) (r : Rate) (path : ℕ → Bool) (t : ℕ) (x y : Bool) → IsAtStep p r t → x ≡ parity_x (window path t) → y ≡ parity_y (window path t)
    → bits_of_step p.rate p.step x y ≡ sent_bits r path (sent_before r t) (sent_before r (t + 1))
next_sent p r path t x y at e f = rw (at.step, at.rate, e, f) (in_place r t (parity_x (window path t)) (parity_y (window path t)) ∙ in_order r path t)

-- the same of the bits that an answer of the table sends
pub pushed : (p : Place) (r : Rate) (path : ℕ → Bool) (t : ℕ) (x y x_goes y_goes : Bool) → x_goes ≡ is_sent p.rate X p.step → y_goes ≡ is_sent p.rate Y p.step
    → IsAtStep p r t → x ≡ parity_x (window path t) → y ≡ parity_y (window path t) → bits_sent x_goes y_goes x y ≡ sent_bits r path (sent_before r t) (sent_before r (t + 1))
pushed p r path t x y x_goes y_goes e f at u v = rw (e, f) (next_sent p r path t x y at u v)
