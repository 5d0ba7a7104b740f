-- The tables are computed.
use Rattle.std.proofs.Common.{◌≡◌, ℕ, zero, suc, ◌+◌, ◌*◌, ◌/◌, ◌%◌, ◌<◌, ◌≤◌, List, [], ◌∷◌, length, get_or, map, Bool, true, false, nat_le, refl, ap, sym, ◌∙◌, subst, arith}
use Rattle.std.specs.Prelude.{ℤ, pos, ◌&&◌}
use Rattle.std.specs.List.{list_all}
use Rattle.std.proofs.lemmas.Bool.Decides.{nat_tests}
use Rattle.std.proofs.lemmas.List.{length-map}
use Rattle.spec_words.specs.Words.{numbers}
use Rattle.spec_words.proofs.Counting.{length-numbers}
use Rattle.tracking.specs.Coefficients.{time_taps}
use Rattle.tracking.specs.InTime.{tap_at}
use Rattle.tracking.specs.Moving.{tap}
use Rattle.tracking.specs.declared.motion.Motion.{Motion}
use Rattle.tracking.specs.declared.motion.Motion.TheVariants.{Slow, Fast}
use Rattle.track_cells.specs.Sizes.{size_to}
use Rattle.track_cells.proofs.Tables.{entry}
use Rattle.track_comb_gains.specs.Kept.{kept_tap, kept_taps}
use Rattle.track_comb_gains.specs.declared.tables.TheConstants.{SLOW, FAST}

pub slow_is : SLOW ≡ map (kept_taps Slow) (numbers 64)
unfolding kept_tap tap_at tap time_taps numbers
slow_is = refl

pub fast_is : FAST ≡ map (kept_taps Fast) (numbers 64)
unfolding kept_tap tap_at tap time_taps numbers
fast_is = refl

passes : (p : List ℤ → Bool) (xs : List (List ℤ)) (i : ℕ) → list_all p xs ≡ true → i < length xs → p (get_or xs i []) ≡ true
passes p [] i e h = absurd (omega (arith, h))
passes p (x ∷ xs) i e h = by (p x) refl (passes p xs) i e h
  where
    by : (b : Bool) → p x ≡ b → ((k : ℕ) → list_all p xs ≡ true → k < length xs → p (get_or xs k []) ≡ true) → (i : ℕ) → (b && list_all p xs) ≡ true → i < length (x ∷ xs) → p (get_or (x ∷ xs) i []) ≡ true
    by true f r zero e h = f
    by true f r (suc i) e h = r i e (omega (arith, h))
    by false f r i e h = absurd (grind (arith, e))

all_small : (f : Motion) → list_all (λ (r : List ℤ). nat_le (size_to 4 r) 5620) (map (kept_taps f) (numbers 64)) ≡ true
unfolding kept_tap tap_at tap time_taps numbers size_to
all_small Slow = refl
all_small Fast = refl

-- a row of the tables
pub row_is : (f : Motion) (d n : ℕ) → d < 4 → n < 16 → get_or (map (kept_taps f) (numbers 64)) (16 * d + n) [] ≡ map (kept_tap f d n) (numbers 4)
row_is f d n h k =
    let r = 16 * d + n in
    let high : r / 16 ≡ d = omega (arith, h, k) in
    let low : r % 16 ≡ n = omega (arith, h, k) in
    entry (kept_taps f) 64 r [] (omega (arith, h, k)) ∙ ap (λ (z : ℕ). map (kept_tap f z (r % 16)) (numbers 4)) high ∙ ap (λ (z : ℕ). map (kept_tap f d z) (numbers 4)) low

pub row_is_small : (f : Motion) (d n : ℕ) → d < 4 → n < 16 → size_to 4 (get_or (map (kept_taps f) (numbers 64)) (16 * d + n) []) ≤ 5620
row_is_small f d n h k =
    let rows = map (kept_taps f) (numbers 64) in
    let t : nat_le (size_to 4 (get_or rows (16 * d + n) [])) 5620 ≡ true = passes (λ (r : List ℤ). nat_le (size_to 4 r) 5620) rows (16 * d + n) (all_small f) (omega (arith, h, k, length-map (numbers 64) (kept_taps f), length-numbers 64)) in
    grind (arith, nat_tests, t)
