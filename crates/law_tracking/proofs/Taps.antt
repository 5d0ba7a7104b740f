-- The taps of the symbols that count, by a table over motions, distances and sets of symbols.
use Rattle.std.proofs.Common.{◌≡◌, ℕ, zero, suc, ◌<◌, ◌≤◌, List, [], ◌∷◌, length, refl, sym, ap, ◌∙◌, subst, arith, map, Bool, true, false, cond, ltb}
use Rattle.std.specs.Prelude.{ℤ, pos, ◌-ℤ◌, nat_abs, ◌&&◌, nat_le, filter, sum_by, if◌then◌else◌}
use Rattle.std.proofs.lemmas.Bool.{and_parts, ltb-true, le-leb}
use Rattle.std.proofs.lemmas.Int.{ints}
use Rattle.spec_words.specs.Words.{numbers}
use Rattle.tracking.specs.Coefficients.{time_taps}
use Rattle.tracking.specs.InTime.{place, tap_at, sum_ℤ}
use Rattle.tracking.specs.Moving.{tap}
use Rattle.tracking.specs.declared.motion.Motion.{Motion}
use Rattle.tracking.specs.declared.motion.Motion.TheVariants.{Slow, Fast}

-- those of the four places that count
abbrev pub those : ℕ → Bool → Bool → Bool → Bool → List ℕ
those d w x y z =
    let fourth = cond z (place d 3 ∷ []) [] in
    let third = cond y (place d 2 ∷ fourth) fourth in
    let second = cond x (place d 1 ∷ third) third in
    cond w (place d 0 ∷ second) second

pub filtered : (p : ℕ → Bool) (d : ℕ) → filter p (map (place d) (numbers 4)) ≡ those d (p (place d 0)) (p (place d 1)) (p (place d 2)) (p (place d 3))
unfolding numbers
filtered p d = refl

abbrev pub size : Motion → ℕ → List ℕ → ℕ
size f d ps = sum_by (λ p. nat_abs (tap_at f d ps p)) ps

abbrev pub whole : Motion → ℕ → List ℕ → ℤ
whole f d ps = sum_ℤ (tap_at f d ps) ps

abbrev for_bits : (Bool → Bool) → Bool
for_bits f = f false && f true

for_bits_at : (f : Bool → Bool) (b : Bool) → for_bits f ≡ true → f b ≡ true
for_bits_at f false h = (and_parts _ _ h).0
for_bits_at f true h = (and_parts _ _ h).1

-- the sum of absolute values is bounded
abbrev small : Motion → ℕ → Bool → Bool → Bool → Bool → Bool
small f d w x y z = ltb (size f d (those d w x y z)) 5621

abbrev table : Motion → ℕ → Bool
table f d = for_bits (λ w. for_bits (λ x. for_bits (λ y. for_bits (λ z. small f d w x y z))))

tables : (f : Motion) (d : ℕ) → d < 4 → table f d ≡ true
unfolding tap_at tap time_taps numbers
tables Slow zero h = refl
tables Slow (suc zero) h = refl
tables Slow (suc (suc zero)) h = refl
tables Slow (suc (suc (suc zero))) h = refl
tables Slow (suc (suc (suc (suc d)))) h = absurd (omega (arith, h))
tables Fast zero h = refl
tables Fast (suc zero) h = refl
tables Fast (suc (suc zero)) h = refl
tables Fast (suc (suc (suc zero))) h = refl
tables Fast (suc (suc (suc (suc d)))) h = absurd (omega (arith, h))

at : (f : Motion) (d : ℕ) (w x y z : Bool) → d < 4 → size f d (those d w x y z) ≤ 5620
at f d w x y z h =
    let one : small f d w x y z ≡ true =
    for_bits_at (λ z. small f d w x y z) z (for_bits_at (λ y. for_bits (λ z. small f d w x y z)) y
    (for_bits_at (λ x. for_bits (λ y. for_bits (λ z. small f d w x y z))) x (for_bits_at (λ w. for_bits (λ x. for_bits (λ y. for_bits (λ z. small f d w x y z)))) w (tables f d h)))) in
    omega (arith, ltb-true _ _ one)

pub few : (f : Motion) (d : ℕ) (p : ℕ → Bool) → d < 4 → size f d (filter p (map (place d) (numbers 4))) ≤ 5620
few f d p h = subst (λ (ps : List ℕ). size f d ps ≤ 5620) (sym (filtered p d)) (at f d (p (place d 0)) (p (place d 1)) (p (place d 2)) (p (place d 3)) h)

-- they add up to 4096 unless none counts
abbrev sure : Motion → ℕ → Bool → Bool → Bool → Bool → Bool
sure f d w x y z = if nat_le 1 (length (those d w x y z)) then ltb (nat_abs (whole f d (those d w x y z) -ℤ pos 4096)) 1 else true

abbrev sums : Motion → ℕ → Bool
sums f d = for_bits (λ w. for_bits (λ x. for_bits (λ y. for_bits (λ z. sure f d w x y z))))

all_sums : (f : Motion) (d : ℕ) → d < 4 → sums f d ≡ true
unfolding tap_at tap time_taps numbers
all_sums Slow zero h = refl
all_sums Slow (suc zero) h = refl
all_sums Slow (suc (suc zero)) h = refl
all_sums Slow (suc (suc (suc zero))) h = refl
all_sums Slow (suc (suc (suc (suc d)))) h = absurd (omega (arith, h))
all_sums Fast zero h = refl
all_sums Fast (suc zero) h = refl
all_sums Fast (suc (suc zero)) h = refl
all_sums Fast (suc (suc (suc zero))) h = refl
all_sums Fast (suc (suc (suc (suc d)))) h = absurd (omega (arith, h))

no_less : (z : ℤ) → nat_abs (z -ℤ pos 4096) < 1 → z ≡ pos 4096
no_less z h = omega (arith, ints, h)

sum_at : (f : Motion) (d : ℕ) (w x y z : Bool) → d < 4 → 1 ≤ length (those d w x y z) → whole f d (those d w x y z) ≡ pos 4096
sum_at f d w x y z h some =
    let one : sure f d w x y z ≡ true =
    for_bits_at (λ z. sure f d w x y z) z (for_bits_at (λ y. for_bits (λ z. sure f d w x y z)) y
    (for_bits_at (λ x. for_bits (λ y. for_bits (λ z. sure f d w x y z))) x (for_bits_at (λ w. for_bits (λ x. for_bits (λ y. for_bits (λ z. sure f d w x y z)))) w (all_sums f d h)))) in
    let test = ltb (nat_abs (whole f d (those d w x y z) -ℤ pos 4096)) 1 in
    let yes : test ≡ true = sym (ap (λ (t : Bool). if t then test else true) (le-leb 1 (length (those d w x y z)) some)) ∙ one in
    no_less (whole f d (those d w x y z)) (ltb-true _ _ yes)

pub sum_is : (f : Motion) (d : ℕ) (p : ℕ → Bool) → d < 4 → 1 ≤ length (filter p (map (place d) (numbers 4))) → whole f d (filter p (map (place d) (numbers 4))) ≡ pos 4096
sum_is f d p h some =
    let e = filtered p d in
    subst (λ (ps : List ℕ). whole f d ps ≡ pos 4096) (sym e) (sum_at f d (p (place d 0)) (p (place d 1)) (p (place d 2)) (p (place d 3)) h (subst (λ (ps : List ℕ). 1 ≤ length ps) e some))
