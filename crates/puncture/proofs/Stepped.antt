-- Each sent bit has its step.
use Rattle.std.proofs.Common.{◌≡◌, ℕ, zero, suc, ◌+◌, ◌-◌, ◌*◌, ◌/◌, ◌%◌, ◌<◌, refl, ap, subst, arith}
use Rattle.std.proofs.lemmas.Nat.{div-mul-add, mod-mul-add, div-add-mod', mod_below}
use Rattle.code_paths.specs.Paths.{parity_x, parity_y}
use Rattle.mode_set.specs.StreamTable.{sent_in_period}
use Rattle.mode_set.specs.declared.modes.Rate.{Rate}
use Rattle.mode_set.specs.declared.modes.Rate.TheVariants.{R1of2, R2of3, R3of4, R5of6, R7of8}
use Rattle.puncture.specs.SentBits.{window}
use Rattle.puncture.specs.Laws.{HasStep}

abbrev HasStepAt : Rate → ℕ → ℕ → Type 0
HasStepAt r q j = HasStep r (q * sent_in_period r + j)

stepped_R1of2 : (q j : ℕ) → j < 2 → HasStepAt R1of2 q j
stepped_R1of2 q zero l =
    let place : 1 * q + 1 - 1 ≡ q * 1 + 0 = omega arith in
    record { number = rw (div-mul-add q 2 0 l, mod-mul-add q 2 0 l, div-mul-add q 1 0 (omega arith), mod-mul-add q 1 0 (omega arith)) refl; bit = λ path. rw (div-mul-add q 2 0 l, mod-mul-add q 2 0 l) (ap (λ t. parity_x (window path t)) place) }
stepped_R1of2 q (suc zero) l =
    let place : 1 * q + 1 - 1 ≡ q * 1 + 0 = omega arith in
    record { number = rw (div-mul-add q 2 1 l, mod-mul-add q 2 1 l, div-mul-add q 1 0 (omega arith), mod-mul-add q 1 0 (omega arith)) refl; bit = λ path. rw (div-mul-add q 2 1 l, mod-mul-add q 2 1 l) (ap (λ t. parity_y (window path t)) place) }
stepped_R1of2 q (suc (suc j)) l = absurd (omega arith)

stepped_R2of3 : (q j : ℕ) → j < 3 → HasStepAt R2of3 q j
stepped_R2of3 q zero l =
    let place : 2 * q + 1 - 1 ≡ q * 2 + 0 = omega arith in
    record { number = rw (div-mul-add q 3 0 l, mod-mul-add q 3 0 l, div-mul-add q 2 0 (omega arith), mod-mul-add q 2 0 (omega arith)) refl; bit = λ path. rw (div-mul-add q 3 0 l, mod-mul-add q 3 0 l) (ap (λ t. parity_x (window path t)) place) }
stepped_R2of3 q (suc zero) l =
    let place : 2 * q + 1 - 1 ≡ q * 2 + 0 = omega arith in
    record { number = rw (div-mul-add q 3 1 l, mod-mul-add q 3 1 l, div-mul-add q 2 0 (omega arith), mod-mul-add q 2 0 (omega arith)) refl; bit = λ path. rw (div-mul-add q 3 1 l, mod-mul-add q 3 1 l) (ap (λ t. parity_y (window path t)) place) }
stepped_R2of3 q (suc (suc zero)) l =
    let place : 2 * q + 2 - 1 ≡ q * 2 + 1 = omega arith in
    record { number = rw (div-mul-add q 3 2 l, mod-mul-add q 3 2 l, div-mul-add q 2 1 (omega arith), mod-mul-add q 2 1 (omega arith)) refl; bit = λ path. rw (div-mul-add q 3 2 l, mod-mul-add q 3 2 l) (ap (λ t. parity_y (window path t)) place) }
stepped_R2of3 q (suc (suc (suc j))) l = absurd (omega arith)

stepped_R3of4 : (q j : ℕ) → j < 4 → HasStepAt R3of4 q j
stepped_R3of4 q zero l =
    let place : 3 * q + 1 - 1 ≡ q * 3 + 0 = omega arith in
    record { number = rw (div-mul-add q 4 0 l, mod-mul-add q 4 0 l, div-mul-add q 3 0 (omega arith), mod-mul-add q 3 0 (omega arith)) refl; bit = λ path. rw (div-mul-add q 4 0 l, mod-mul-add q 4 0 l) (ap (λ t. parity_x (window path t)) place) }
stepped_R3of4 q (suc zero) l =
    let place : 3 * q + 1 - 1 ≡ q * 3 + 0 = omega arith in
    record { number = rw (div-mul-add q 4 1 l, mod-mul-add q 4 1 l, div-mul-add q 3 0 (omega arith), mod-mul-add q 3 0 (omega arith)) refl; bit = λ path. rw (div-mul-add q 4 1 l, mod-mul-add q 4 1 l) (ap (λ t. parity_y (window path t)) place) }
stepped_R3of4 q (suc (suc zero)) l =
    let place : 3 * q + 2 - 1 ≡ q * 3 + 1 = omega arith in
    record { number = rw (div-mul-add q 4 2 l, mod-mul-add q 4 2 l, div-mul-add q 3 1 (omega arith), mod-mul-add q 3 1 (omega arith)) refl; bit = λ path. rw (div-mul-add q 4 2 l, mod-mul-add q 4 2 l) (ap (λ t. parity_y (window path t)) place) }
stepped_R3of4 q (suc (suc (suc zero))) l =
    let place : 3 * q + 3 - 1 ≡ q * 3 + 2 = omega arith in
    record { number = rw (div-mul-add q 4 3 l, mod-mul-add q 4 3 l, div-mul-add q 3 2 (omega arith), mod-mul-add q 3 2 (omega arith)) refl; bit = λ path. rw (div-mul-add q 4 3 l, mod-mul-add q 4 3 l) (ap (λ t. parity_x (window path t)) place) }
stepped_R3of4 q (suc (suc (suc (suc j)))) l = absurd (omega arith)

stepped_R5of6 : (q j : ℕ) → j < 6 → HasStepAt R5of6 q j
stepped_R5of6 q zero l =
    let place : 5 * q + 1 - 1 ≡ q * 5 + 0 = omega arith in
    record { number = rw (div-mul-add q 6 0 l, mod-mul-add q 6 0 l, div-mul-add q 5 0 (omega arith), mod-mul-add q 5 0 (omega arith)) refl; bit = λ path. rw (div-mul-add q 6 0 l, mod-mul-add q 6 0 l) (ap (λ t. parity_x (window path t)) place) }
stepped_R5of6 q (suc zero) l =
    let place : 5 * q + 1 - 1 ≡ q * 5 + 0 = omega arith in
    record { number = rw (div-mul-add q 6 1 l, mod-mul-add q 6 1 l, div-mul-add q 5 0 (omega arith), mod-mul-add q 5 0 (omega arith)) refl; bit = λ path. rw (div-mul-add q 6 1 l, mod-mul-add q 6 1 l) (ap (λ t. parity_y (window path t)) place) }
stepped_R5of6 q (suc (suc zero)) l =
    let place : 5 * q + 2 - 1 ≡ q * 5 + 1 = omega arith in
    record { number = rw (div-mul-add q 6 2 l, mod-mul-add q 6 2 l, div-mul-add q 5 1 (omega arith), mod-mul-add q 5 1 (omega arith)) refl; bit = λ path. rw (div-mul-add q 6 2 l, mod-mul-add q 6 2 l) (ap (λ t. parity_y (window path t)) place) }
stepped_R5of6 q (suc (suc (suc zero))) l =
    let place : 5 * q + 3 - 1 ≡ q * 5 + 2 = omega arith in
    record { number = rw (div-mul-add q 6 3 l, mod-mul-add q 6 3 l, div-mul-add q 5 2 (omega arith), mod-mul-add q 5 2 (omega arith)) refl; bit = λ path. rw (div-mul-add q 6 3 l, mod-mul-add q 6 3 l) (ap (λ t. parity_x (window path t)) place) }
stepped_R5of6 q (suc (suc (suc (suc zero)))) l =
    let place : 5 * q + 4 - 1 ≡ q * 5 + 3 = omega arith in
    record { number = rw (div-mul-add q 6 4 l, mod-mul-add q 6 4 l, div-mul-add q 5 3 (omega arith), mod-mul-add q 5 3 (omega arith)) refl; bit = λ path. rw (div-mul-add q 6 4 l, mod-mul-add q 6 4 l) (ap (λ t. parity_y (window path t)) place) }
stepped_R5of6 q (suc (suc (suc (suc (suc zero))))) l =
    let place : 5 * q + 5 - 1 ≡ q * 5 + 4 = omega arith in
    record { number = rw (div-mul-add q 6 5 l, mod-mul-add q 6 5 l, div-mul-add q 5 4 (omega arith), mod-mul-add q 5 4 (omega arith)) refl; bit = λ path. rw (div-mul-add q 6 5 l, mod-mul-add q 6 5 l) (ap (λ t. parity_x (window path t)) place) }
stepped_R5of6 q (suc (suc (suc (suc (suc (suc j)))))) l = absurd (omega arith)

stepped_R7of8 : (q j : ℕ) → j < 8 → HasStepAt R7of8 q j
stepped_R7of8 q zero l =
    let place : 7 * q + 1 - 1 ≡ q * 7 + 0 = omega arith in
    record { number = rw (div-mul-add q 8 0 l, mod-mul-add q 8 0 l, div-mul-add q 7 0 (omega arith), mod-mul-add q 7 0 (omega arith)) refl; bit = λ path. rw (div-mul-add q 8 0 l, mod-mul-add q 8 0 l) (ap (λ t. parity_x (window path t)) place) }
stepped_R7of8 q (suc zero) l =
    let place : 7 * q + 1 - 1 ≡ q * 7 + 0 = omega arith in
    record { number = rw (div-mul-add q 8 1 l, mod-mul-add q 8 1 l, div-mul-add q 7 0 (omega arith), mod-mul-add q 7 0 (omega arith)) refl; bit = λ path. rw (div-mul-add q 8 1 l, mod-mul-add q 8 1 l) (ap (λ t. parity_y (window path t)) place) }
stepped_R7of8 q (suc (suc zero)) l =
    let place : 7 * q + 2 - 1 ≡ q * 7 + 1 = omega arith in
    record { number = rw (div-mul-add q 8 2 l, mod-mul-add q 8 2 l, div-mul-add q 7 1 (omega arith), mod-mul-add q 7 1 (omega arith)) refl; bit = λ path. rw (div-mul-add q 8 2 l, mod-mul-add q 8 2 l) (ap (λ t. parity_y (window path t)) place) }
stepped_R7of8 q (suc (suc (suc zero))) l =
    let place : 7 * q + 3 - 1 ≡ q * 7 + 2 = omega arith in
    record { number = rw (div-mul-add q 8 3 l, mod-mul-add q 8 3 l, div-mul-add q 7 2 (omega arith), mod-mul-add q 7 2 (omega arith)) refl; bit = λ path. rw (div-mul-add q 8 3 l, mod-mul-add q 8 3 l) (ap (λ t. parity_y (window path t)) place) }
stepped_R7of8 q (suc (suc (suc (suc zero)))) l =
    let place : 7 * q + 4 - 1 ≡ q * 7 + 3 = omega arith in
    record { number = rw (div-mul-add q 8 4 l, mod-mul-add q 8 4 l, div-mul-add q 7 3 (omega arith), mod-mul-add q 7 3 (omega arith)) refl; bit = λ path. rw (div-mul-add q 8 4 l, mod-mul-add q 8 4 l) (ap (λ t. parity_y (window path t)) place) }
stepped_R7of8 q (suc (suc (suc (suc (suc zero))))) l =
    let place : 7 * q + 5 - 1 ≡ q * 7 + 4 = omega arith in
    record { number = rw (div-mul-add q 8 5 l, mod-mul-add q 8 5 l, div-mul-add q 7 4 (omega arith), mod-mul-add q 7 4 (omega arith)) refl; bit = λ path. rw (div-mul-add q 8 5 l, mod-mul-add q 8 5 l) (ap (λ t. parity_x (window path t)) place) }
stepped_R7of8 q (suc (suc (suc (suc (suc (suc zero)))))) l =
    let place : 7 * q + 6 - 1 ≡ q * 7 + 5 = omega arith in
    record { number = rw (div-mul-add q 8 6 l, mod-mul-add q 8 6 l, div-mul-add q 7 5 (omega arith), mod-mul-add q 7 5 (omega arith)) refl; bit = λ path. rw (div-mul-add q 8 6 l, mod-mul-add q 8 6 l) (ap (λ t. parity_y (window path t)) place) }
stepped_R7of8 q (suc (suc (suc (suc (suc (suc (suc zero))))))) l =
    let place : 7 * q + 7 - 1 ≡ q * 7 + 6 = omega arith in
    record { number = rw (div-mul-add q 8 7 l, mod-mul-add q 8 7 l, div-mul-add q 7 6 (omega arith), mod-mul-add q 7 6 (omega arith)) refl; bit = λ path. rw (div-mul-add q 8 7 l, mod-mul-add q 8 7 l) (ap (λ t. parity_x (window path t)) place) }
stepped_R7of8 q (suc (suc (suc (suc (suc (suc (suc (suc j)))))))) l = absurd (omega arith)

stepped_in : (r : Rate) (q j : ℕ) → j < sent_in_period r → HasStepAt r q j
stepped_in R1of2 = stepped_R1of2
stepped_in R2of3 = stepped_R2of3
stepped_in R3of4 = stepped_R3of4
stepped_in R5of6 = stepped_R5of6
stepped_in R7of8 = stepped_R7of8

pub stepped : (r : Rate) (n : ℕ) → HasStep r n
stepped r n = subst (HasStep r) (div-add-mod' n (sent_in_period r)) (stepped_in r (n / sent_in_period r) (n % sent_in_period r) (mod_below n (sent_in_period r) (omega arith)))
