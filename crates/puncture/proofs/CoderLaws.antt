-- A coder at a path codes the next byte of it.
use Rattle.std.proofs.Common.{subst, ◌≡◌, ℕ, zero, suc, ◌+◌, ◌<◌, ◌%◌, Bool, false, List, ◌++◌, map, drop, get_or, sym, ap, ◌∙◌, arith}
use Rattle.std.specs.List.{range_with_len}
use Rattle.spec_words.specs.Bits.{bit, spelled}
use Rattle.conv_code.specs.Coded.{xs_of, ys_of}
use Rattle.mode_set.specs.StreamTable.{steps_in_period}
use Rattle.mode_set.specs.declared.modes.Rate.{Rate}
use Rattle.puncture.specs.SentBits.{bits_from, sent_bits}
use Rattle.puncture.specs.Steps.{sent_before, bits_of_steps, Coder, IsAtPath}
use Rattle.puncture.proofs.Runs.{run_append, run_of_steps}

pub run_at : (f : ℕ → Bool) (a n i : ℕ) → i < n → get_or (map f (range_with_len a n)) i false ≡ f (a + i)
run_at f a zero i l = absurd (omega arith)
run_at f a (suc n) zero l = let e : a + 0 ≡ a = omega arith in sym (ap f e)
run_at f a (suc n) (suc i) l = let e : a + 1 + i ≡ a + suc i = omega arith in run_at f (a + 1) n i (omega arith) ∙ ap f e

module _ (p : Coder) (r : Rate) (path : ℕ → Bool) (t byte : ℕ) (at : IsAtPath p r path t) (is : spelled 8 byte ≡ bits_from path (t + 6) 8) where
  whole : p.register ++ spelled 8 byte ≡ bits_from path t 14
  whole = rw (at.register, is) (run_append path t 6 8)

  place_of : (i : ℕ) → i < 14 → bit (p.register ++ spelled 8 byte) i ≡ path (t + i)
  place_of i l = rw whole (run_at path t 14 i l)

  pub place : p.step ≡ t % steps_in_period p.rate
  place = at.step ∙ ap (λ s. t % steps_in_period s) (sym at.rate)

  pub sent : (x y : ℕ) (bits : List Bool) → spelled 8 x ≡ xs_of 8 (p.register ++ spelled 8 byte) → spelled 8 y ≡ ys_of 8 (p.register ++ spelled 8 byte)
      → bits ≡ bits_of_steps p.rate t (spelled 8 x) (spelled 8 y) → bits ≡ sent_bits r path (sent_before r t) (sent_before r (t + 8))
  sent x y bits x_is y_is made = made ∙ ap (λ s. bits_of_steps s t (spelled 8 x) (spelled 8 y)) at.rate
      ∙ ap (λ z. bits_of_steps r t z (spelled 8 y)) x_is ∙ ap (λ z. bits_of_steps r t (xs_of 8 (p.register ++ spelled 8 byte)) z) y_is
      ∙ run_of_steps r path 8 t (p.register ++ spelled 8 byte) place_of

  pub register : (new : List Bool) → new ≡ drop 8 (p.register ++ spelled 8 byte) → new ≡ bits_from path (t + 8) 6
  register new e =
      let start : t + 1 + 1 + 1 + 1 + 1 + 1 + 1 + 1 ≡ t + 8 = omega arith in
      e ∙ ap (λ z. drop 8 z) whole ∙ ap (λ s. map path (range_with_len s 6)) start

pub at_same : (p : Coder) (r : Rate) (path : ℕ → Bool) (t u : ℕ) → t ≡ u → IsAtPath p r path t → IsAtPath p r path u
at_same p r path t u e at = subst (IsAtPath p r path) e at
