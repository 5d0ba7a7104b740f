-- The parities that sent bits are.
use Rattle.std.proofs.Common.{◌≡◌, ℕ, ◌+◌, ◌-◌, ◌*◌, ◌/◌, ◌%◌, Bool, true, false, cond, sym, ap, ◌∙◌, arith}
use Rattle.std.specs.Prelude.{slice_index_or}
use Rattle.std.proofs.Math.Nat.{mul_comm}
use Rattle.code_paths.specs.Paths.{parity_x, parity_y}
use Rattle.mode_set.specs.StreamTable.{steps_in_period, sent_in_period}
use Rattle.mode_set.specs.declared.modes.Rate.{Rate}
use Rattle.puncture.specs.SentBits.{X, Y, sent, sent_bit, coded_bit, window}
use Rattle.inner_chain.specs.Labels.{parity_at}

coded_is : (path : ℕ → Bool) (t j u : ℕ) (y : Bool) → t + j ≡ u → coded_bit path t (cond y (Y (j + 1)) (X (j + 1))) ≡ parity_at (cond y 1 0) path u
coded_is path t j u true e = let here : t + (j + 1) - 1 ≡ u = omega (arith, e) in ap (λ (z : ℕ). parity_y (window path z)) here
coded_is path t j u false e = let here : t + (j + 1) - 1 ≡ u = omega (arith, e) in ap (λ (z : ℕ). parity_x (window path z)) here

pub reads : (r : Rate) (path : ℕ → Bool) (bit n n' k j : ℕ) (y : Bool) → n ≡ sent_in_period r → n' ≡ sent_in_period r → k ≡ steps_in_period r
    → slice_index_or (sent r) (bit % n') (X 1) ≡ cond y (Y (j + 1)) (X (j + 1)) → sent_bit r path bit ≡ parity_at (cond y 1 0) path (bit / n * k + j)
reads r path bit n n' k j y en en' ek e =
    let t : ℕ = steps_in_period r * (bit / sent_in_period r) in
    let same : slice_index_or (sent r) (bit % sent_in_period r) (X 1) ≡ cond y (Y (j + 1)) (X (j + 1)) = ap (λ (z : ℕ). slice_index_or (sent r) (bit % z) (X 1)) (sym en') ∙ e in
    let whole : bit / n * k ≡ t = ap (λ (z : ℕ). bit / z * k) en ∙ ap (λ (z : ℕ). bit / sent_in_period r * z) ek ∙ mul_comm (bit / sent_in_period r) (steps_in_period r) in
    ap (coded_bit path t) same ∙ coded_is path t j (bit / n * k + j) y (omega (arith, whole))
