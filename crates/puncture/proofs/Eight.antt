-- What is sent of a run of steps.
use Rattle.std.proofs.Common.{◌≡◌, ℕ, suc, ◌+◌, ◌%◌, Bool, List, ◌++◌, append_assoc, append-nil, refl, sym}
use Rattle.std.proofs.Math.Nat.{mod-mod}
use Rattle.spec_words.specs.Bits.{is_set, spelled}
use Rattle.mode_set.specs.StreamTable.{steps_in_period}
use Rattle.mode_set.specs.declared.modes.Rate.{Rate}
use Rattle.puncture.specs.SentBits.{X, Y}
use Rattle.puncture.specs.Steps.{is_sent, bits_sent, bits_of_step, bits_of_steps}

-- the first of some steps
steps_first : (r : Rate) (t m x y : ℕ) → bits_of_steps r t (spelled (suc m) x) (spelled (suc m) y) ≡ bits_of_step r t (is_set x m) (is_set y m) ++ bits_of_steps r (t + 1) (spelled m x) (spelled m y)
unfolding bits_of_steps
steps_first r t m x y = refl

-- a step goes over
pub step_moved : (r : Rate) (t u m n place x y : ℕ) (old new : List Bool) (sx sy bx by : Bool) → n ≡ suc m → u ≡ t + 1 → place ≡ t % steps_in_period r
    → sx ≡ is_sent r X place → sy ≡ is_sent r Y place → bx ≡ is_set x m → by ≡ is_set y m → new ≡ old ++ bits_sent sx sy bx by
    → new ++ bits_of_steps r u (spelled m x) (spelled m y) ≡ old ++ bits_of_steps r t (spelled n x) (spelled n y)
step_moved r t u m n place x y old new sx sy bx by size next at x_goes y_goes x_is y_is appended =
    let here : bits_sent sx sy bx by ≡ bits_of_step r t (is_set x m) (is_set y m) = rw (x_goes, y_goes, x_is, y_is, at, mod-mod t (steps_in_period r)) refl in
    rw (size, next, appended, here, steps_first r t m x y) (append_assoc old (bits_of_step r t (is_set x m) (is_set y m)) (bits_of_steps r (t + 1) (spelled m x) (spelled m y)))

pub no_steps : (r : Rate) (t n x y : ℕ) (old : List Bool) → n ≡ 0 → old ≡ old ++ bits_of_steps r t (spelled n x) (spelled n y)
unfolding bits_of_steps
no_steps r t n x y old e = rw e (sym (append-nil old))
