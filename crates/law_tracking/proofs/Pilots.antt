-- The comb points of pilots.
use Rattle.std.proofs.Common.{◌≡◌, ℕ, ◌*◌, ◌%◌, ◌<◌, length, get_or, refl, ap, ◌∙◌, arith, Bool, true, false}
use Rattle.std.specs.Prelude.{if◌then◌else◌, count_by}
use Rattle.std.proofs.lemmas.Bool.{eq-eqb, eqb-true}
use Rattle.spec_words.specs.Words.{numbers}
use Rattle.spec_words.proofs.Counting.{length-numbers, get_or-numbers}
use Rattle.mode_set.specs.declared.modes.Mode.{Mode}
use Rattle.pilots.specs.Around.{is_for_pilots, is_pilot}
use Rattle.pilots.specs.Carriers.{is_continual, is_scattered, is_tps, is_payload, kind}
use Rattle.pilots.specs.declared.carrier_kind.CarrierKind.{CarrierKind}
use Rattle.pilots.specs.declared.carrier_kind.CarrierKind.TheVariants.{Continual, Scattered, Tps, Payload}
use Rattle.tracking.specs.Comb.{points, continual_points}
use Rattle.law_tracking.proofs.Counting.{passes, all_of}

abbrev others : Mode → ℕ → ℕ → CarrierKind
others m l k = if is_tps m k then Tps else Payload (count_by (is_payload m l) (numbers k))

pub continual_is : (m : Mode) (l k : ℕ) → is_continual m k ≡ true → is_pilot m l k ≡ true
unfolding is_pilot kind
continual_is m l k e = ap (λ (t : Bool). is_for_pilots (if t then Continual else if is_scattered l k then Scattered else others m l k)) e

either : (b : Bool) → is_for_pilots (if b then Continual else Scattered) ≡ true
either true = refl
either false = refl

pub scattered_is : (m : Mode) (l k : ℕ) → is_scattered l k ≡ true → is_pilot m l k ≡ true
unfolding is_pilot kind
scattered_is m l k e = ap (λ (t : Bool). is_for_pilots (if is_continual m k then Continual else if t then Scattered else others m l k)) e ∙ either (is_continual m k)

-- point j is a scattered pilot of symbol t if the remainders modulo 4 agree
pub scattered_where : (t j : ℕ) → t % 4 ≡ j % 4 → is_scattered (t % 68) (3 * j) ≡ true
unfolding is_scattered
scattered_where t j e = eq-eqb (3 * j % 12) (3 * (t % 68 % 4)) (omega (arith, e))

pub scattered_only : (t j : ℕ) → is_scattered (t % 68) (3 * j) ≡ true → t % 4 ≡ j % 4
unfolding is_scattered
scattered_only t j e = let h = eqb-true (3 * j % 12) (3 * (t % 68 % 4)) e in omega (arith, h)

-- the points of the continual pilots
number_below : (n i : ℕ) → i < length (numbers n) → get_or (numbers n) i 0 < n
number_below n i h = let lt : i < n = omega (arith, h, length-numbers n) in let e = get_or-numbers n i lt in omega (arith, e, lt)

pub continual_within : (m : Mode) (i : ℕ) → i < length (continual_points m) → get_or (continual_points m) i 0 < points m
unfolding continual_points
continual_within m i h = all_of (numbers (points m)) (λ j. is_continual m (3 * j)) (λ j. j < points m) (number_below (points m)) i h

pub continual_pilot : (m : Mode) (l i : ℕ) → i < length (continual_points m) → is_pilot m l (3 * get_or (continual_points m) i 0) ≡ true
unfolding continual_points
continual_pilot m l i h = continual_is m l (3 * get_or (continual_points m) i 0) (passes (numbers (points m)) (λ j. is_continual m (3 * j)) i h)
