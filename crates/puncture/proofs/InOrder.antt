-- Each step sends the next bits of its path.
use Rattle.std.proofs.Common.{◌≡◌, ℕ, zero, suc, ◌+◌, ◌-◌, ◌*◌, ◌/◌, ◌%◌, ◌<◌, nat_le, Bool, [], ◌∷◌, map, refl, ap, subst, ◌∙◌, arith}
use Rattle.std.specs.Prelude.{count_by, slice_index_or}
use Rattle.std.specs.List.{range_with_len}
use Rattle.std.proofs.lemmas.Nat.{div-mul-add, mod-mul-add, div-add-mod', mod_below}
use Rattle.code_paths.specs.Paths.{parity_x, parity_y}
use Rattle.mode_set.specs.StreamTable.{steps_in_period, sent_in_period}
use Rattle.mode_set.specs.declared.modes.Rate.{Rate}
use Rattle.mode_set.specs.declared.modes.Rate.TheVariants.{R1of2, R2of3, R3of4, R5of6, R7of8}
use Rattle.puncture.specs.SentBits.{X, sent, window, coded_bit, sent_bit, sent_bits}
use Rattle.puncture.specs.Steps.{step_in_period, sent_before, bits_of_step}

-- the bits sent in the first i steps of a period
abbrev pub count : Rate → ℕ → ℕ
count r i = count_by (λ c. nat_le (step_in_period c) i) (sent r)

pub before : (r : Rate) (q i : ℕ) → i < steps_in_period r → sent_before r (q * steps_in_period r + i) ≡ q * sent_in_period r + count r i
before r q i l = rw (div-mul-add q (steps_in_period r) i l, mod-mul-add q (steps_in_period r) i l) refl

pub bit_at : (r : Rate) (path : ℕ → Bool) (q j : ℕ) → j < sent_in_period r → sent_bit r path (q * sent_in_period r + j) ≡ coded_bit path (steps_in_period r * q) (slice_index_or (sent r) j (X 1))
bit_at r path q j l = rw (div-mul-add q (sent_in_period r) j l, mod-mul-add q (sent_in_period r) j l) refl

one : (r : Rate) (path : ℕ → Bool) (a b : ℕ) → b ≡ a + 1 → sent_bits r path a b ≡ sent_bit r path a ∷ []
one r path a b e = let d : b - a ≡ 1 = omega arith in ap (λ n. map (sent_bit r path) (range_with_len a n)) d

two : (r : Rate) (path : ℕ → Bool) (a b : ℕ) → b ≡ a + 2 → sent_bits r path a b ≡ sent_bit r path a ∷ sent_bit r path (a + 1) ∷ []
two r path a b e = let d : b - a ≡ 2 = omega arith in ap (λ n. map (sent_bit r path) (range_with_len a n)) d

-- step t sends the bits that follow those of the steps before it
abbrev pub IsInOrder : Rate → (ℕ → Bool) → ℕ → Type 0
IsInOrder r path t = bits_of_step r t (parity_x (window path t)) (parity_y (window path t)) ≡ sent_bits r path (sent_before r t) (sent_before r (t + 1))

step_R1of2_0 : (path : ℕ → Bool) (q : ℕ) → IsInOrder R1of2 path (q * 1 + 0)
step_R1of2_0 path q =
    let now : sent_before R1of2 (q * 1 + 0) ≡ q * 2 + 0 = before R1of2 q 0 (omega arith) in
    let then : sent_before R1of2 (q * 1 + 0 + 1) ≡ q * 2 + 2 = let same : q * 1 + 0 + 1 ≡ (q + 1) * 1 + 0 = omega arith in let bits : (q + 1) * 2 + 0 ≡ q * 2 + 2 = omega arith in ap (sent_before R1of2) same ∙ (before R1of2 (q + 1) 0 (omega arith) ∙ bits) in
    let bit_0 : sent_bit R1of2 path (q * 2 + 0) ≡ parity_x (window path (q * 1 + 0)) = (bit_at R1of2 path q 0 (omega arith) ∙ (let place : 1 * q + 1 - 1 ≡ q * 1 + 0 = omega arith in ap (λ t. parity_x (window path t)) place)) in
    let bit_1 : sent_bit R1of2 path (q * 2 + 0 + 1) ≡ parity_y (window path (q * 1 + 0)) = let same : q * 2 + 0 + 1 ≡ q * 2 + 1 = omega arith in ap (sent_bit R1of2 path) same ∙ (bit_at R1of2 path q 1 (omega arith) ∙ (let place : 1 * q + 1 - 1 ≡ q * 1 + 0 = omega arith in ap (λ t. parity_y (window path t)) place)) in
    rw (now, then, mod-mul-add q 1 0 (omega arith), two R1of2 path (q * 2 + 0) (q * 2 + 2) (omega arith), bit_0, bit_1) refl

at_R1of2 : (path : ℕ → Bool) (q i : ℕ) → i < 1 → IsInOrder R1of2 path (q * 1 + i)
at_R1of2 path q zero l = step_R1of2_0 path q
at_R1of2 path q (suc i) l = absurd (omega arith)

step_R2of3_0 : (path : ℕ → Bool) (q : ℕ) → IsInOrder R2of3 path (q * 2 + 0)
step_R2of3_0 path q =
    let now : sent_before R2of3 (q * 2 + 0) ≡ q * 3 + 0 = before R2of3 q 0 (omega arith) in
    let then : sent_before R2of3 (q * 2 + 0 + 1) ≡ q * 3 + 2 = let same : q * 2 + 0 + 1 ≡ q * 2 + 1 = omega arith in ap (sent_before R2of3) same ∙ before R2of3 q 1 (omega arith) in
    let bit_0 : sent_bit R2of3 path (q * 3 + 0) ≡ parity_x (window path (q * 2 + 0)) = (bit_at R2of3 path q 0 (omega arith) ∙ (let place : 2 * q + 1 - 1 ≡ q * 2 + 0 = omega arith in ap (λ t. parity_x (window path t)) place)) in
    let bit_1 : sent_bit R2of3 path (q * 3 + 0 + 1) ≡ parity_y (window path (q * 2 + 0)) = let same : q * 3 + 0 + 1 ≡ q * 3 + 1 = omega arith in ap (sent_bit R2of3 path) same ∙ (bit_at R2of3 path q 1 (omega arith) ∙ (let place : 2 * q + 1 - 1 ≡ q * 2 + 0 = omega arith in ap (λ t. parity_y (window path t)) place)) in
    rw (now, then, mod-mul-add q 2 0 (omega arith), two R2of3 path (q * 3 + 0) (q * 3 + 2) (omega arith), bit_0, bit_1) refl

step_R2of3_1 : (path : ℕ → Bool) (q : ℕ) → IsInOrder R2of3 path (q * 2 + 1)
step_R2of3_1 path q =
    let now : sent_before R2of3 (q * 2 + 1) ≡ q * 3 + 2 = before R2of3 q 1 (omega arith) in
    let then : sent_before R2of3 (q * 2 + 1 + 1) ≡ q * 3 + 3 = let same : q * 2 + 1 + 1 ≡ (q + 1) * 2 + 0 = omega arith in let bits : (q + 1) * 3 + 0 ≡ q * 3 + 3 = omega arith in ap (sent_before R2of3) same ∙ (before R2of3 (q + 1) 0 (omega arith) ∙ bits) in
    let bit_0 : sent_bit R2of3 path (q * 3 + 2) ≡ parity_y (window path (q * 2 + 1)) = (bit_at R2of3 path q 2 (omega arith) ∙ (let place : 2 * q + 2 - 1 ≡ q * 2 + 1 = omega arith in ap (λ t. parity_y (window path t)) place)) in
    rw (now, then, mod-mul-add q 2 1 (omega arith), one R2of3 path (q * 3 + 2) (q * 3 + 3) (omega arith), bit_0) refl

at_R2of3 : (path : ℕ → Bool) (q i : ℕ) → i < 2 → IsInOrder R2of3 path (q * 2 + i)
at_R2of3 path q zero l = step_R2of3_0 path q
at_R2of3 path q (suc zero) l = step_R2of3_1 path q
at_R2of3 path q (suc (suc i)) l = absurd (omega arith)

step_R3of4_0 : (path : ℕ → Bool) (q : ℕ) → IsInOrder R3of4 path (q * 3 + 0)
step_R3of4_0 path q =
    let now : sent_before R3of4 (q * 3 + 0) ≡ q * 4 + 0 = before R3of4 q 0 (omega arith) in
    let then : sent_before R3of4 (q * 3 + 0 + 1) ≡ q * 4 + 2 = let same : q * 3 + 0 + 1 ≡ q * 3 + 1 = omega arith in ap (sent_before R3of4) same ∙ before R3of4 q 1 (omega arith) in
    let bit_0 : sent_bit R3of4 path (q * 4 + 0) ≡ parity_x (window path (q * 3 + 0)) = (bit_at R3of4 path q 0 (omega arith) ∙ (let place : 3 * q + 1 - 1 ≡ q * 3 + 0 = omega arith in ap (λ t. parity_x (window path t)) place)) in
    let bit_1 : sent_bit R3of4 path (q * 4 + 0 + 1) ≡ parity_y (window path (q * 3 + 0)) = let same : q * 4 + 0 + 1 ≡ q * 4 + 1 = omega arith in ap (sent_bit R3of4 path) same ∙ (bit_at R3of4 path q 1 (omega arith) ∙ (let place : 3 * q + 1 - 1 ≡ q * 3 + 0 = omega arith in ap (λ t. parity_y (window path t)) place)) in
    rw (now, then, mod-mul-add q 3 0 (omega arith), two R3of4 path (q * 4 + 0) (q * 4 + 2) (omega arith), bit_0, bit_1) refl

step_R3of4_1 : (path : ℕ → Bool) (q : ℕ) → IsInOrder R3of4 path (q * 3 + 1)
step_R3of4_1 path q =
    let now : sent_before R3of4 (q * 3 + 1) ≡ q * 4 + 2 = before R3of4 q 1 (omega arith) in
    let then : sent_before R3of4 (q * 3 + 1 + 1) ≡ q * 4 + 3 = let same : q * 3 + 1 + 1 ≡ q * 3 + 2 = omega arith in ap (sent_before R3of4) same ∙ before R3of4 q 2 (omega arith) in
    let bit_0 : sent_bit R3of4 path (q * 4 + 2) ≡ parity_y (window path (q * 3 + 1)) = (bit_at R3of4 path q 2 (omega arith) ∙ (let place : 3 * q + 2 - 1 ≡ q * 3 + 1 = omega arith in ap (λ t. parity_y (window path t)) place)) in
    rw (now, then, mod-mul-add q 3 1 (omega arith), one R3of4 path (q * 4 + 2) (q * 4 + 3) (omega arith), bit_0) refl

step_R3of4_2 : (path : ℕ → Bool) (q : ℕ) → IsInOrder R3of4 path (q * 3 + 2)
step_R3of4_2 path q =
    let now : sent_before R3of4 (q * 3 + 2) ≡ q * 4 + 3 = before R3of4 q 2 (omega arith) in
    let then : sent_before R3of4 (q * 3 + 2 + 1) ≡ q * 4 + 4 = let same : q * 3 + 2 + 1 ≡ (q + 1) * 3 + 0 = omega arith in let bits : (q + 1) * 4 + 0 ≡ q * 4 + 4 = omega arith in ap (sent_before R3of4) same ∙ (before R3of4 (q + 1) 0 (omega arith) ∙ bits) in
    let bit_0 : sent_bit R3of4 path (q * 4 + 3) ≡ parity_x (window path (q * 3 + 2)) = (bit_at R3of4 path q 3 (omega arith) ∙ (let place : 3 * q + 3 - 1 ≡ q * 3 + 2 = omega arith in ap (λ t. parity_x (window path t)) place)) in
    rw (now, then, mod-mul-add q 3 2 (omega arith), one R3of4 path (q * 4 + 3) (q * 4 + 4) (omega arith), bit_0) refl

at_R3of4 : (path : ℕ → Bool) (q i : ℕ) → i < 3 → IsInOrder R3of4 path (q * 3 + i)
at_R3of4 path q zero l = step_R3of4_0 path q
at_R3of4 path q (suc zero) l = step_R3of4_1 path q
at_R3of4 path q (suc (suc zero)) l = step_R3of4_2 path q
at_R3of4 path q (suc (suc (suc i))) l = absurd (omega arith)

step_R5of6_0 : (path : ℕ → Bool) (q : ℕ) → IsInOrder R5of6 path (q * 5 + 0)
step_R5of6_0 path q =
    let now : sent_before R5of6 (q * 5 + 0) ≡ q * 6 + 0 = before R5of6 q 0 (omega arith) in
    let then : sent_before R5of6 (q * 5 + 0 + 1) ≡ q * 6 + 2 = let same : q * 5 + 0 + 1 ≡ q * 5 + 1 = omega arith in ap (sent_before R5of6) same ∙ before R5of6 q 1 (omega arith) in
    let bit_0 : sent_bit R5of6 path (q * 6 + 0) ≡ parity_x (window path (q * 5 + 0)) = (bit_at R5of6 path q 0 (omega arith) ∙ (let place : 5 * q + 1 - 1 ≡ q * 5 + 0 = omega arith in ap (λ t. parity_x (window path t)) place)) in
    let bit_1 : sent_bit R5of6 path (q * 6 + 0 + 1) ≡ parity_y (window path (q * 5 + 0)) = let same : q * 6 + 0 + 1 ≡ q * 6 + 1 = omega arith in ap (sent_bit R5of6 path) same ∙ (bit_at R5of6 path q 1 (omega arith) ∙ (let place : 5 * q + 1 - 1 ≡ q * 5 + 0 = omega arith in ap (λ t. parity_y (window path t)) place)) in
    rw (now, then, mod-mul-add q 5 0 (omega arith), two R5of6 path (q * 6 + 0) (q * 6 + 2) (omega arith), bit_0, bit_1) refl

step_R5of6_1 : (path : ℕ → Bool) (q : ℕ) → IsInOrder R5of6 path (q * 5 + 1)
step_R5of6_1 path q =
    let now : sent_before R5of6 (q * 5 + 1) ≡ q * 6 + 2 = before R5of6 q 1 (omega arith) in
    let then : sent_before R5of6 (q * 5 + 1 + 1) ≡ q * 6 + 3 = let same : q * 5 + 1 + 1 ≡ q * 5 + 2 = omega arith in ap (sent_before R5of6) same ∙ before R5of6 q 2 (omega arith) in
    let bit_0 : sent_bit R5of6 path (q * 6 + 2) ≡ parity_y (window path (q * 5 + 1)) = (bit_at R5of6 path q 2 (omega arith) ∙ (let place : 5 * q + 2 - 1 ≡ q * 5 + 1 = omega arith in ap (λ t. parity_y (window path t)) place)) in
    rw (now, then, mod-mul-add q 5 1 (omega arith), one R5of6 path (q * 6 + 2) (q * 6 + 3) (omega arith), bit_0) refl

step_R5of6_2 : (path : ℕ → Bool) (q : ℕ) → IsInOrder R5of6 path (q * 5 + 2)
step_R5of6_2 path q =
    let now : sent_before R5of6 (q * 5 + 2) ≡ q * 6 + 3 = before R5of6 q 2 (omega arith) in
    let then : sent_before R5of6 (q * 5 + 2 + 1) ≡ q * 6 + 4 = let same : q * 5 + 2 + 1 ≡ q * 5 + 3 = omega arith in ap (sent_before R5of6) same ∙ before R5of6 q 3 (omega arith) in
    let bit_0 : sent_bit R5of6 path (q * 6 + 3) ≡ parity_x (window path (q * 5 + 2)) = (bit_at R5of6 path q 3 (omega arith) ∙ (let place : 5 * q + 3 - 1 ≡ q * 5 + 2 = omega arith in ap (λ t. parity_x (window path t)) place)) in
    rw (now, then, mod-mul-add q 5 2 (omega arith), one R5of6 path (q * 6 + 3) (q * 6 + 4) (omega arith), bit_0) refl

step_R5of6_3 : (path : ℕ → Bool) (q : ℕ) → IsInOrder R5of6 path (q * 5 + 3)
step_R5of6_3 path q =
    let now : sent_before R5of6 (q * 5 + 3) ≡ q * 6 + 4 = before R5of6 q 3 (omega arith) in
    let then : sent_before R5of6 (q * 5 + 3 + 1) ≡ q * 6 + 5 = let same : q * 5 + 3 + 1 ≡ q * 5 + 4 = omega arith in ap (sent_before R5of6) same ∙ before R5of6 q 4 (omega arith) in
    let bit_0 : sent_bit R5of6 path (q * 6 + 4) ≡ parity_y (window path (q * 5 + 3)) = (bit_at R5of6 path q 4 (omega arith) ∙ (let place : 5 * q + 4 - 1 ≡ q * 5 + 3 = omega arith in ap (λ t. parity_y (window path t)) place)) in
    rw (now, then, mod-mul-add q 5 3 (omega arith), one R5of6 path (q * 6 + 4) (q * 6 + 5) (omega arith), bit_0) refl

step_R5of6_4 : (path : ℕ → Bool) (q : ℕ) → IsInOrder R5of6 path (q * 5 + 4)
step_R5of6_4 path q =
    let now : sent_before R5of6 (q * 5 + 4) ≡ q * 6 + 5 = before R5of6 q 4 (omega arith) in
    let then : sent_before R5of6 (q * 5 + 4 + 1) ≡ q * 6 + 6 = let same : q * 5 + 4 + 1 ≡ (q + 1) * 5 + 0 = omega arith in let bits : (q + 1) * 6 + 0 ≡ q * 6 + 6 = omega arith in ap (sent_before R5of6) same ∙ (before R5of6 (q + 1) 0 (omega arith) ∙ bits) in
    let bit_0 : sent_bit R5of6 path (q * 6 + 5) ≡ parity_x (window path (q * 5 + 4)) = (bit_at R5of6 path q 5 (omega arith) ∙ (let place : 5 * q + 5 - 1 ≡ q * 5 + 4 = omega arith in ap (λ t. parity_x (window path t)) place)) in
    rw (now, then, mod-mul-add q 5 4 (omega arith), one R5of6 path (q * 6 + 5) (q * 6 + 6) (omega arith), bit_0) refl

at_R5of6 : (path : ℕ → Bool) (q i : ℕ) → i < 5 → IsInOrder R5of6 path (q * 5 + i)
at_R5of6 path q zero l = step_R5of6_0 path q
at_R5of6 path q (suc zero) l = step_R5of6_1 path q
at_R5of6 path q (suc (suc zero)) l = step_R5of6_2 path q
at_R5of6 path q (suc (suc (suc zero))) l = step_R5of6_3 path q
at_R5of6 path q (suc (suc (suc (suc zero)))) l = step_R5of6_4 path q
at_R5of6 path q (suc (suc (suc (suc (suc i))))) l = absurd (omega arith)

step_R7of8_0 : (path : ℕ → Bool) (q : ℕ) → IsInOrder R7of8 path (q * 7 + 0)
step_R7of8_0 path q =
    let now : sent_before R7of8 (q * 7 + 0) ≡ q * 8 + 0 = before R7of8 q 0 (omega arith) in
    let then : sent_before R7of8 (q * 7 + 0 + 1) ≡ q * 8 + 2 = let same : q * 7 + 0 + 1 ≡ q * 7 + 1 = omega arith in ap (sent_before R7of8) same ∙ before R7of8 q 1 (omega arith) in
    let bit_0 : sent_bit R7of8 path (q * 8 + 0) ≡ parity_x (window path (q * 7 + 0)) = (bit_at R7of8 path q 0 (omega arith) ∙ (let place : 7 * q + 1 - 1 ≡ q * 7 + 0 = omega arith in ap (λ t. parity_x (window path t)) place)) in
    let bit_1 : sent_bit R7of8 path (q * 8 + 0 + 1) ≡ parity_y (window path (q * 7 + 0)) = let same : q * 8 + 0 + 1 ≡ q * 8 + 1 = omega arith in ap (sent_bit R7of8 path) same ∙ (bit_at R7of8 path q 1 (omega arith) ∙ (let place : 7 * q + 1 - 1 ≡ q * 7 + 0 = omega arith in ap (λ t. parity_y (window path t)) place)) in
    rw (now, then, mod-mul-add q 7 0 (omega arith), two R7of8 path (q * 8 + 0) (q * 8 + 2) (omega arith), bit_0, bit_1) refl

step_R7of8_1 : (path : ℕ → Bool) (q : ℕ) → IsInOrder R7of8 path (q * 7 + 1)
step_R7of8_1 path q =
    let now : sent_before R7of8 (q * 7 + 1) ≡ q * 8 + 2 = before R7of8 q 1 (omega arith) in
    let then : sent_before R7of8 (q * 7 + 1 + 1) ≡ q * 8 + 3 = let same : q * 7 + 1 + 1 ≡ q * 7 + 2 = omega arith in ap (sent_before R7of8) same ∙ before R7of8 q 2 (omega arith) in
    let bit_0 : sent_bit R7of8 path (q * 8 + 2) ≡ parity_y (window path (q * 7 + 1)) = (bit_at R7of8 path q 2 (omega arith) ∙ (let place : 7 * q + 2 - 1 ≡ q * 7 + 1 = omega arith in ap (λ t. parity_y (window path t)) place)) in
    rw (now, then, mod-mul-add q 7 1 (omega arith), one R7of8 path (q * 8 + 2) (q * 8 + 3) (omega arith), bit_0) refl

step_R7of8_2 : (path : ℕ → Bool) (q : ℕ) → IsInOrder R7of8 path (q * 7 + 2)
step_R7of8_2 path q =
    let now : sent_before R7of8 (q * 7 + 2) ≡ q * 8 + 3 = before R7of8 q 2 (omega arith) in
    let then : sent_before R7of8 (q * 7 + 2 + 1) ≡ q * 8 + 4 = let same : q * 7 + 2 + 1 ≡ q * 7 + 3 = omega arith in ap (sent_before R7of8) same ∙ before R7of8 q 3 (omega arith) in
    let bit_0 : sent_bit R7of8 path (q * 8 + 3) ≡ parity_y (window path (q * 7 + 2)) = (bit_at R7of8 path q 3 (omega arith) ∙ (let place : 7 * q + 3 - 1 ≡ q * 7 + 2 = omega arith in ap (λ t. parity_y (window path t)) place)) in
    rw (now, then, mod-mul-add q 7 2 (omega arith), one R7of8 path (q * 8 + 3) (q * 8 + 4) (omega arith), bit_0) refl

step_R7of8_3 : (path : ℕ → Bool) (q : ℕ) → IsInOrder R7of8 path (q * 7 + 3)
step_R7of8_3 path q =
    let now : sent_before R7of8 (q * 7 + 3) ≡ q * 8 + 4 = before R7of8 q 3 (omega arith) in
    let then : sent_before R7of8 (q * 7 + 3 + 1) ≡ q * 8 + 5 = let same : q * 7 + 3 + 1 ≡ q * 7 + 4 = omega arith in ap (sent_before R7of8) same ∙ before R7of8 q 4 (omega arith) in
    let bit_0 : sent_bit R7of8 path (q * 8 + 4) ≡ parity_y (window path (q * 7 + 3)) = (bit_at R7of8 path q 4 (omega arith) ∙ (let place : 7 * q + 4 - 1 ≡ q * 7 + 3 = omega arith in ap (λ t. parity_y (window path t)) place)) in
    rw (now, then, mod-mul-add q 7 3 (omega arith), one R7of8 path (q * 8 + 4) (q * 8 + 5) (omega arith), bit_0) refl

step_R7of8_4 : (path : ℕ → Bool) (q : ℕ) → IsInOrder R7of8 path (q * 7 + 4)
step_R7of8_4 path q =
    let now : sent_before R7of8 (q * 7 + 4) ≡ q * 8 + 5 = before R7of8 q 4 (omega arith) in
    let then : sent_before R7of8 (q * 7 + 4 + 1) ≡ q * 8 + 6 = let same : q * 7 + 4 + 1 ≡ q * 7 + 5 = omega arith in ap (sent_before R7of8) same ∙ before R7of8 q 5 (omega arith) in
    let bit_0 : sent_bit R7of8 path (q * 8 + 5) ≡ parity_x (window path (q * 7 + 4)) = (bit_at R7of8 path q 5 (omega arith) ∙ (let place : 7 * q + 5 - 1 ≡ q * 7 + 4 = omega arith in ap (λ t. parity_x (window path t)) place)) in
    rw (now, then, mod-mul-add q 7 4 (omega arith), one R7of8 path (q * 8 + 5) (q * 8 + 6) (omega arith), bit_0) refl

step_R7of8_5 : (path : ℕ → Bool) (q : ℕ) → IsInOrder R7of8 path (q * 7 + 5)
step_R7of8_5 path q =
    let now : sent_before R7of8 (q * 7 + 5) ≡ q * 8 + 6 = before R7of8 q 5 (omega arith) in
    let then : sent_before R7of8 (q * 7 + 5 + 1) ≡ q * 8 + 7 = let same : q * 7 + 5 + 1 ≡ q * 7 + 6 = omega arith in ap (sent_before R7of8) same ∙ before R7of8 q 6 (omega arith) in
    let bit_0 : sent_bit R7of8 path (q * 8 + 6) ≡ parity_y (window path (q * 7 + 5)) = (bit_at R7of8 path q 6 (omega arith) ∙ (let place : 7 * q + 6 - 1 ≡ q * 7 + 5 = omega arith in ap (λ t. parity_y (window path t)) place)) in
    rw (now, then, mod-mul-add q 7 5 (omega arith), one R7of8 path (q * 8 + 6) (q * 8 + 7) (omega arith), bit_0) refl

step_R7of8_6 : (path : ℕ → Bool) (q : ℕ) → IsInOrder R7of8 path (q * 7 + 6)
step_R7of8_6 path q =
    let now : sent_before R7of8 (q * 7 + 6) ≡ q * 8 + 7 = before R7of8 q 6 (omega arith) in
    let then : sent_before R7of8 (q * 7 + 6 + 1) ≡ q * 8 + 8 = let same : q * 7 + 6 + 1 ≡ (q + 1) * 7 + 0 = omega arith in let bits : (q + 1) * 8 + 0 ≡ q * 8 + 8 = omega arith in ap (sent_before R7of8) same ∙ (before R7of8 (q + 1) 0 (omega arith) ∙ bits) in
    let bit_0 : sent_bit R7of8 path (q * 8 + 7) ≡ parity_x (window path (q * 7 + 6)) = (bit_at R7of8 path q 7 (omega arith) ∙ (let place : 7 * q + 7 - 1 ≡ q * 7 + 6 = omega arith in ap (λ t. parity_x (window path t)) place)) in
    rw (now, then, mod-mul-add q 7 6 (omega arith), one R7of8 path (q * 8 + 7) (q * 8 + 8) (omega arith), bit_0) refl

at_R7of8 : (path : ℕ → Bool) (q i : ℕ) → i < 7 → IsInOrder R7of8 path (q * 7 + i)
at_R7of8 path q zero l = step_R7of8_0 path q
at_R7of8 path q (suc zero) l = step_R7of8_1 path q
at_R7of8 path q (suc (suc zero)) l = step_R7of8_2 path q
at_R7of8 path q (suc (suc (suc zero))) l = step_R7of8_3 path q
at_R7of8 path q (suc (suc (suc (suc zero)))) l = step_R7of8_4 path q
at_R7of8 path q (suc (suc (suc (suc (suc zero))))) l = step_R7of8_5 path q
at_R7of8 path q (suc (suc (suc (suc (suc (suc zero)))))) l = step_R7of8_6 path q
at_R7of8 path q (suc (suc (suc (suc (suc (suc (suc i))))))) l = absurd (omega arith)

in_period : (r : Rate) (path : ℕ → Bool) (q i : ℕ) → i < steps_in_period r → IsInOrder r path (q * steps_in_period r + i)
in_period R1of2 = at_R1of2
in_period R2of3 = at_R2of3
in_period R3of4 = at_R3of4
in_period R5of6 = at_R5of6
in_period R7of8 = at_R7of8

pub some_step : (r : Rate) → 0 < steps_in_period r
some_step R1of2 = omega arith
some_step R2of3 = omega arith
some_step R3of4 = omega arith
some_step R5of6 = omega arith
some_step R7of8 = omega arith

pub in_order : (r : Rate) (path : ℕ → Bool) (t : ℕ) → IsInOrder r path t
in_order r path t = subst (IsInOrder r path) (div-add-mod' t (steps_in_period r)) (in_period r path (t / steps_in_period r) (t % steps_in_period r) (mod_below t (steps_in_period r) (some_step r)))
