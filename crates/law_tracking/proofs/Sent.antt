-- The parts of the cells of a transmission are at most 21845, and its pilots are those of the law.
use Rattle.std.proofs.Common.{◌≡◌, ℕ, ◌/◌, ◌%◌, ◌≤◌, List, [], ◌∷◌, take, refl, sym, arith, subst, Bool, true, false, ◌&&◌, ltb}
use Rattle.std.specs.Prelude.{ℤ, pos, nat_abs}
use Rattle.std.proofs.lemmas.Int.{ints}
use Rattle.std.proofs.lemmas.Bool.{and_parts, ltb-true}
use Rattle.spec_words.specs.Words.{numbers}
use Rattle.mode_set.specs.StreamTable.{label_bits}
use Rattle.mode_set.specs.declared.modes.Mode.{Mode}
use Rattle.mode_set.specs.declared.modes.Shape.{Shape}
use Rattle.mode_set.specs.declared.modes.Shape.TheVariants.{Qpsk, Qam16, Qam64}
use Rattle.mode_set.specs.declared.modes.Hierarchy.{Hierarchy}
use Rattle.mode_set.specs.declared.modes.Hierarchy.TheVariants.{Flat, Alpha1, Alpha2, Alpha4}
use Rattle.mode_set.specs.declared.settings.Settings.{Settings}
use Rattle.pilots.specs.declared.carrier_kind.CarrierKind.{CarrierKind}
use Rattle.pilots.specs.declared.carrier_kind.CarrierKind.TheVariants.{Continual, Scattered, Tps, Payload}
use Rattle.pilots.specs.Carriers.{kind}
use Rattle.pilots.specs.Reference.{reference}
use Rattle.qam_map.specs.declared.cell.Cell.{Cell}
use Rattle.qam_map.specs.Points.{map_cell, value_of, real_bits, imaginary_bits, tolerance}
use Rattle.frame_build.specs.Announcing.{announcing_cell, settings_for}
use Rattle.frame_build.specs.Symbol.{real, tps_sign, frame_of, cell_of_kind}
use Rattle.tps_word.specs.Tps.{tps_word, signalled}
use Rattle.pilots.specs.Around.{is_for_pilots, is_pilot}
use Rattle.tracking.specs.Comb.{unturned}
use Rattle.symbol_parameters.specs.Spans.{settings_at}
use Rattle.symbol_parameters.specs.Laws.{ModeStays}
use Rattle.transmission.specs.Transmission.{Inputs, announced_at, tx_label, tx_cell}
use Rattle.spec_words.proofs.Sizes.{Below}
use Rattle.law_tracking.specs.Tracked.{IsWellTolerated}

-- ---- the values of the constellations, by a table over all bits
abbrev for_bits : (Bool → Bool) → Bool
for_bits f = f false && f true

for_bits_at : (f : Bool → Bool) (b : Bool) → for_bits f ≡ true → f b ≡ true
for_bits_at f false h = (and_parts _ _ h).0
for_bits_at f true h = (and_parts _ _ h).1

abbrev few : ℤ → Bool
few z = ltb (nat_abs z) 21846

abbrev value_at : Shape → Hierarchy → Bool → Bool → Bool → ℤ
value_at s h a b c = value_of s h (take (label_bits s / 2) (a ∷ b ∷ c ∷ []))

abbrev table : Shape → Hierarchy → Bool
table s h = for_bits (λ a. for_bits (λ b. for_bits (λ c. few (value_at s h a b c))))

tables : (s : Shape) (h : Hierarchy) → table s h ≡ true
tables Qpsk h = refl
tables Qam16 Flat = refl
tables Qam16 Alpha1 = refl
tables Qam16 Alpha2 = refl
tables Qam16 Alpha4 = refl
tables Qam64 Flat = refl
tables Qam64 Alpha1 = refl
tables Qam64 Alpha2 = refl
tables Qam64 Alpha4 = refl

value_small : (s : Shape) (h : Hierarchy) (a b c : Bool) → nat_abs (value_at s h a b c) ≤ 21845
value_small s h a b c =
    let one : few (value_at s h a b c) ≡ true =
    for_bits_at (λ c. few (value_at s h a b c)) c (for_bits_at (λ b. for_bits (λ c. few (value_at s h a b c))) b (for_bits_at (λ a. for_bits (λ b. for_bits (λ c. few (value_at s h a b c)))) a (tables s h))) in
    let lt = ltb-true _ _ one in
    omega (arith, lt)

real_is : (s : Shape) (y : ℕ → Bool) → real_bits s y ≡ take (label_bits s / 2) (y 0 ∷ y 2 ∷ y 4 ∷ [])
unfolding numbers
real_is Qpsk y = refl
real_is Qam16 y = refl
real_is Qam64 y = refl

imaginary_is : (s : Shape) (y : ℕ → Bool) → imaginary_bits s y ≡ take (label_bits s / 2) (y 1 ∷ y 3 ∷ y 5 ∷ [])
unfolding numbers
imaginary_is Qpsk y = refl
imaginary_is Qam16 y = refl
imaginary_is Qam64 y = refl

pub record IsSmall (c : Cell) : Type 0 where
  pub re : Below c.re 21845
  pub im : Below c.im 21845

point_small : (s : Shape) (h : Hierarchy) (y : ℕ → Bool) → IsSmall (map_cell s h y)
point_small s h y = record {
  re = record { below = subst (λ (ys : List Bool). nat_abs (value_of s h ys) ≤ 21845) (sym (real_is s y)) (value_small s h (y 0) (y 2) (y 4)) };
  im = record { below = subst (λ (ys : List Bool). nat_abs (value_of s h ys) ≤ 21845) (sym (imaginary_is s y)) (value_small s h (y 1) (y 3) (y 5)) };
}

-- ---- pilots and TPS cells
real_small : (n : ℕ) (w : Bool) → n ≤ 21845 → IsSmall (real n w)
real_small n true h = record { re = record { below = omega (arith, ints, h) }; im = record { below = omega (arith, ints) } }
real_small n false h = record { re = record { below = omega (arith, ints, h) }; im = record { below = omega (arith, ints) } }

kind_small : (s : Settings) (n : ℕ) (labels : ℕ → ℕ → Bool) (k : ℕ) (kd : CarrierKind) → IsSmall (cell_of_kind s n labels k kd)
unfolding cell_of_kind
kind_small s n labels k Continual = real_small 21845 (reference k) (omega arith)
kind_small s n labels k Scattered = real_small 21845 (reference k) (omega arith)
kind_small s n labels k Tps = real_small 16384 (tps_sign (tps_word (signalled s (frame_of n))) k (n % 68)) (omega arith)
kind_small s n labels k (Payload q) = point_small s.shape s.hierarchy (labels q)

kind_is_pilot : (s : Settings) (n : ℕ) (labels : ℕ → ℕ → Bool) (k : ℕ) (kd : CarrierKind) → is_for_pilots kd ≡ true → cell_of_kind s n labels k kd ≡ record { re = unturned (reference k) (pos 21845); im = pos 0 }
unfolding cell_of_kind
kind_is_pilot s n labels k Continual e = refl
kind_is_pilot s n labels k Scattered e = refl
kind_is_pilot s n labels k Tps e = absurd cc
kind_is_pilot s n labels k (Payload q) e = absurd cc

-- the facts on a symbol of a transmission
pub record IsSent (m : Mode) (l : ℕ) (sent : ℕ → Cell) : Type 0 where
  pub small : (k : ℕ) → IsSmall (sent k)
  pub pilots : (k : ℕ) → is_pilot m l k ≡ true → sent k ≡ record { re = unturned (reference k) (pos 21845); im = pos 0 }

-- for any announced settings
sent_announcing : (s next : Settings) (n : ℕ) (labels : ℕ → ℕ → Bool) → IsSent s.mode (n % 68) (announcing_cell s next n labels)
unfolding announcing_cell is_pilot
sent_announcing s next n labels = record {
  small = λ k. let kd : CarrierKind = kind s.mode (n % 68) k in kind_small (settings_for s next kd) n labels k kd;
  pilots = λ k e. let kd : CarrierKind = kind s.mode (n % 68) k in kind_is_pilot (settings_for s next kd) n labels k kd e;
}

pub tx_sent : ModeStays → (s : Settings) (inputs : Inputs) (m : ℕ) → IsSent s.mode (m % 68) (tx_cell s inputs m)
unfolding tx_cell
tx_sent stays s inputs m = subst (λ (z : Mode). IsSent z (m % 68) (tx_cell s inputs m)) (stays s (m / 272)) (sent_announcing (settings_at s m) (announced_at s m) m (tx_label s inputs m))

-- ---- the tolerances
wide : (s : Shape) (h : Hierarchy) → ltb 255 (tolerance s h) ≡ true
wide Qpsk Flat = refl
wide Qpsk Alpha1 = refl
wide Qpsk Alpha2 = refl
wide Qpsk Alpha4 = refl
wide Qam16 Flat = refl
wide Qam16 Alpha1 = refl
wide Qam16 Alpha2 = refl
wide Qam16 Alpha4 = refl
wide Qam64 Flat = refl
wide Qam64 Alpha1 = refl
wide Qam64 Alpha2 = refl
wide Qam64 Alpha4 = refl

pub tolerated : IsWellTolerated
tolerated s h = ltb-true 255 (tolerance s h) (wide s h)
