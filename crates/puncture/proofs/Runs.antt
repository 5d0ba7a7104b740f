-- Runs of sent bits, and the sent bits of a run of steps.
use Rattle.std.proofs.Common.{◌≡◌, ℕ, zero, suc, ◌+◌, ◌-◌, ◌<◌, ◌≤◌, Bool, false, if◌then◌else◌, List, ◌∷◌, ◌++◌, map, drop, refl, ap, ◌∙◌, arith}
use Rattle.std.specs.List.{range_with_len}
use Rattle.std.proofs.lemmas.List.{get_or-drop}
use Rattle.spec_words.specs.Bits.{bit}
use Rattle.code_paths.specs.Paths.{parity_x, parity_y}
use Rattle.conv_code.specs.Coded.{xs_of, ys_of}
use Rattle.mode_set.specs.declared.modes.Rate.{Rate}
use Rattle.puncture.specs.SentBits.{window, sent_bit, sent_bits}
use Rattle.puncture.specs.Steps.{sent_before, bits_of_step, bits_of_steps}
use Rattle.puncture.proofs.InOrder.{in_order}
use Rattle.puncture.proofs.Numbered.{numbered}

pub run_append : {T : Type 0} (f : ℕ → T) (a m n : ℕ) → map f (range_with_len a m) ++ map f (range_with_len (a + m) n) ≡ map f (range_with_len a (m + n))
run_append f a zero n =
    let here : a + 0 ≡ a = omega arith in
    let size : 0 + n ≡ n = omega arith in
    rw (here, size) refl
run_append f a (suc m) n =
    let here : a + suc m ≡ a + 1 + m = omega arith in
    let size : suc m + n ≡ suc (m + n) = omega arith in
    rw (here, size) (ap (λ z. f a ∷ z) (run_append f (a + 1) m n))

pub joined : (r : Rate) (path : ℕ → Bool) (a b c : ℕ) → a ≤ b → b ≤ c → sent_bits r path a b ++ sent_bits r path b c ≡ sent_bits r path a c
joined r path a b c h k =
    let here : b ≡ a + (b - a) = omega arith in
    let size : b - a + (c - b) ≡ c - a = omega arith in
    ap (λ s. sent_bits r path a b ++ map (sent_bit r path) (range_with_len s (c - b))) here
    ∙ run_append (sent_bit r path) a (b - a) (c - b) ∙ ap (λ n. map (sent_bit r path) (range_with_len a n)) size

grows : (b : Bool) → 0 ≤ (if b then 1 else 0)
grows b = omega arith

pub step_grows : (r : Rate) (t : ℕ) → sent_before r t ≤ sent_before r (t + 1)
step_grows r t = let e = (numbered r t).grows in omega (arith, e)

pub steps_grow : (r : Rate) (t n : ℕ) → sent_before r t ≤ sent_before r (t + n)
steps_grow r t zero = let e : t + 0 ≡ t = omega arith in rw e (omega arith)
steps_grow r t (suc n) =
    let e : t + suc n ≡ t + n + 1 = omega arith in
    rw e (omega (arith, steps_grow r t n, step_grows r (t + n)))

-- the seven bits of a step stand at the front of a list
module _ (p : List Bool) (path : ℕ → Bool) (t : ℕ) (same : (i : ℕ) → i < 7 → bit p i ≡ path (t + i)) where
  first : bit p 0 ≡ path t
  first = let e : t + 0 ≡ t = omega arith in same 0 (omega arith) ∙ ap path e

  pub window_x : parity_x p ≡ parity_x (window path t)
  window_x = rw (first, same 3 (omega arith), same 4 (omega arith), same 5 (omega arith), same 6 (omega arith)) refl

  pub window_y : parity_y p ≡ parity_y (window path t)
  window_y = rw (first, same 1 (omega arith), same 3 (omega arith), same 4 (omega arith), same 6 (omega arith)) refl

-- what is sent of the first n steps of a list is the run of sent bits of the path
pub run_of_steps : (r : Rate) (path : ℕ → Bool) (n t : ℕ) (p : List Bool) → ((i : ℕ) → i < n + 6 → bit p i ≡ path (t + i))
    → bits_of_steps r t (xs_of n p) (ys_of n p) ≡ sent_bits r path (sent_before r t) (sent_before r (t + n))
unfolding bits_of_steps
run_of_steps r path zero t p same =
    let e : t + 0 ≡ t = omega arith in
    let none : sent_before r t - sent_before r t ≡ 0 = omega arith in
    rw (e, none) refl
run_of_steps r path (suc n) t p same =
    let e : t + suc n ≡ t + 1 + n = omega arith in
    let here : bits_of_step r t (parity_x p) (parity_y p) ≡ sent_bits r path (sent_before r t) (sent_before r (t + 1)) =
    rw (window_x p path t (λ i l. same i (omega arith)), window_y p path t (λ i l. same i (omega arith))) (in_order r path t) in
    let shifted : (i : ℕ) → i < n + 6 → bit (drop 1 p) i ≡ path (t + 1 + i) = λ i l.
    let next : 1 + i ≡ suc i = omega arith in
    let place : t + (1 + i) ≡ t + 1 + i = omega arith in
    get_or-drop 1 p i false ∙ same (1 + i) (omega arith) ∙ ap path place in
    rw (e, here, run_of_steps r path n (t + 1) (drop 1 p) shifted) (joined r path (sent_before r t) (sent_before r (t + 1)) (sent_before r (t + 1 + n)) (step_grows r t) (steps_grow r (t + 1) n))
