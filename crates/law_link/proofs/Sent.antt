-- The cells of a transmission fit, and its pilots are those of the law.
use Rattle.std.proofs.Common.{◌≡◌, ℕ, ◌/◌, ◌%◌, ◌≤◌, List, [], ◌∷◌, take, refl, sym, arith, subst, Bool, true, false, ◌&&◌, ltb}
use Rattle.std.specs.Prelude.{ℤ, pos, nat_abs}
use Rattle.std.specs.Int.{w16}
use Rattle.std.specs.Int.RustNames.{FitsSigned}
use Rattle.std.proofs.lemmas.Int.{ints, fits_signed_from_abs}
use Rattle.std.proofs.lemmas.Bool.{and_parts, ltb-true}
use Rattle.spec_words.specs.Words.{numbers}
use Rattle.mode_set.specs.StreamTable.{label_bits}
use Rattle.mode_set.specs.declared.modes.Mode.{Mode}
use Rattle.mode_set.specs.declared.modes.Shape.{Shape}
use Rattle.mode_set.specs.declared.modes.Shape.TheVariants.{Qpsk, Qam16, Qam64}
use Rattle.mode_set.specs.declared.modes.Hierarchy.{Hierarchy}
use Rattle.mode_set.specs.declared.modes.Hierarchy.TheVariants.{Flat, Alpha1, Alpha2, Alpha4}
use Rattle.mode_set.specs.declared.settings.Settings.{Settings}
use Rattle.pilots.specs.declared.carrier_kind.CarrierKind.{CarrierKind}
use Rattle.pilots.specs.declared.carrier_kind.CarrierKind.TheVariants.{Continual, Scattered, Tps, Payload}
use Rattle.pilots.specs.Carriers.{kind}
use Rattle.pilots.specs.Reference.{reference}
use Rattle.qam_map.specs.Points.{map_cell, value_of, real_bits, imaginary_bits, tolerance}
use Rattle.frame_build.specs.Announcing.{announcing_cell, settings_for}
use Rattle.frame_build.specs.Symbol.{real, tps_sign, frame_of, cell_of_kind, cell_at}
use Rattle.tps_word.specs.Tps.{tps_word, signalled}
use Rattle.pilots.specs.Around.{is_for_pilots, is_pilot}
use Rattle.cell_equal.specs.Equal.{unturned}
use Rattle.symbol_parameters.specs.Spans.{settings_at}
use Rattle.symbol_parameters.specs.Laws.{ModeStays}
use Rattle.transmission.specs.Transmission.{Inputs, announced_at, tx_label, tx_cell}
use Rattle.law_link.specs.Flat.{IsCell, IsSent, FlatGainIsRemoved}
use Rattle.law_link.specs.Symbols.{SymbolsComeBack, TransmissionsComeBack, IsTolerated}

-- ---- the values of the constellations, by a table over all bits
abbrev for_bits : (Bool → Bool) → Bool
for_bits f = f false && f true

for_bits_at : (f : Bool → Bool) (b : Bool) → for_bits f ≡ true → f b ≡ true
for_bits_at f false h = (and_parts _ _ h).0
for_bits_at f true h = (and_parts _ _ h).1

abbrev few : ℤ → Bool
few z = ltb (nat_abs z) 32768

abbrev value_at : Shape → Hierarchy → Bool → Bool → Bool → ℤ
value_at s h a b c = value_of s h (take (label_bits s / 2) (a ∷ b ∷ c ∷ []))

abbrev table : Shape → Hierarchy → Bool
table s h = for_bits (λ a. for_bits (λ b. for_bits (λ c. few (value_at s h a b c))))

tables : (s : Shape) (h : Hierarchy) → table s h ≡ true
tables Qpsk h = refl
tables Qam16 Flat = refl
tables Qam16 Alpha1 = refl
tables Qam16 Alpha2 = refl
tables Qam16 Alpha4 = refl
tables Qam64 Flat = refl
tables Qam64 Alpha1 = refl
tables Qam64 Alpha2 = refl
tables Qam64 Alpha4 = refl

value_fits : (s : Shape) (h : Hierarchy) (a b c : Bool) → FitsSigned w16 (value_at s h a b c)
value_fits s h a b c =
    let one : few (value_at s h a b c) ≡ true =
    for_bits_at (λ c. few (value_at s h a b c)) c (for_bits_at (λ b. for_bits (λ c. few (value_at s h a b c))) b (for_bits_at (λ a. for_bits (λ b. for_bits (λ c. few (value_at s h a b c)))) a (tables s h))) in
    fits_signed_from_abs w16 (value_at s h a b c) (ltb-true _ _ one)

real_is : (s : Shape) (y : ℕ → Bool) → real_bits s y ≡ take (label_bits s / 2) (y 0 ∷ y 2 ∷ y 4 ∷ [])
unfolding numbers
real_is Qpsk y = refl
real_is Qam16 y = refl
real_is Qam64 y = refl

imaginary_is : (s : Shape) (y : ℕ → Bool) → imaginary_bits s y ≡ take (label_bits s / 2) (y 1 ∷ y 3 ∷ y 5 ∷ [])
unfolding numbers
imaginary_is Qpsk y = refl
imaginary_is Qam16 y = refl
imaginary_is Qam64 y = refl

point_fits : (s : Shape) (h : Hierarchy) (y : ℕ → Bool) → IsCell (map_cell s h y)
point_fits s h y = record {
  re = subst (λ (ys : List Bool). FitsSigned w16 (value_of s h ys)) (sym (real_is s y)) (value_fits s h (y 0) (y 2) (y 4));
  im = subst (λ (ys : List Bool). FitsSigned w16 (value_of s h ys)) (sym (imaginary_is s y)) (value_fits s h (y 1) (y 3) (y 5));
}

-- ---- pilots and TPS cells
real_fits : (n : ℕ) (w : Bool) → n ≤ 21845 → IsCell (real n w)
real_fits n true h = record { re = omega (arith, ints, h); im = omega (arith, ints) }
real_fits n false h = record { re = omega (arith, ints, h); im = omega (arith, ints) }

kind_fits : (s : Settings) (n : ℕ) (labels : ℕ → ℕ → Bool) (k : ℕ) (kd : CarrierKind) → IsCell (cell_of_kind s n labels k kd)
unfolding cell_of_kind
kind_fits s n labels k Continual = real_fits 21845 (reference k) (omega arith)
kind_fits s n labels k Scattered = real_fits 21845 (reference k) (omega arith)
kind_fits s n labels k Tps = real_fits 16384 (tps_sign (tps_word (signalled s (frame_of n))) k (n % 68)) (omega arith)
kind_fits s n labels k (Payload q) = point_fits s.shape s.hierarchy (labels q)

kind_is_pilot : (s : Settings) (n : ℕ) (labels : ℕ → ℕ → Bool) (k : ℕ) (kd : CarrierKind) → is_for_pilots kd ≡ true → cell_of_kind s n labels k kd ≡ record { re = unturned (reference k) (pos 21845); im = pos 0 }
unfolding cell_of_kind
kind_is_pilot s n labels k Continual e = refl
kind_is_pilot s n labels k Scattered e = refl
kind_is_pilot s n labels k Tps e = absurd cc
kind_is_pilot s n labels k (Payload q) e = absurd cc

sent : (s : Settings) (n : ℕ) (labels : ℕ → ℕ → Bool) → IsSent s.mode (n % 68) (cell_at s n labels)
unfolding cell_at is_pilot
sent s n labels = record {
  cells = λ k lt. kind_fits s n labels k (kind s.mode (n % 68) k);
  pilots = λ k lt e. kind_is_pilot s n labels k (kind s.mode (n % 68) k) e;
}

pub come_back : FlatGainIsRemoved → SymbolsComeBack
come_back law s n labels a b received weights flat come = law s.mode (n % 68) a b (cell_at s n labels) received weights flat (sent s n labels) come

-- for any announced settings
sent_announcing : (s next : Settings) (n : ℕ) (labels : ℕ → ℕ → Bool) → IsSent s.mode (n % 68) (announcing_cell s next n labels)
unfolding announcing_cell is_pilot
sent_announcing s next n labels = record {
  cells = λ k lt. let kd : CarrierKind = kind s.mode (n % 68) k in kind_fits (settings_for s next kd) n labels k kd;
  pilots = λ k lt e. let kd : CarrierKind = kind s.mode (n % 68) k in kind_is_pilot (settings_for s next kd) n labels k kd e;
}

tx_sent : ModeStays → (s : Settings) (inputs : Inputs) (m : ℕ) → IsSent s.mode (m % 68) (tx_cell s inputs m)
unfolding tx_cell
tx_sent stays s inputs m = subst (λ (z : Mode). IsSent z (m % 68) (tx_cell s inputs m)) (stays s (m / 272)) (sent_announcing (settings_at s m) (announced_at s m) m (tx_label s inputs m))

pub all_come_back : FlatGainIsRemoved → ModeStays → TransmissionsComeBack
all_come_back law stays s inputs a b received weights flat come m lt = law s.mode (m % 68) a b (tx_cell s inputs m) (received m) (weights m) flat (tx_sent stays s inputs m) (come m lt)

-- ---- the tolerances
wide : (s : Shape) (h : Hierarchy) → ltb 63 (tolerance s h) ≡ true
wide Qpsk Flat = refl
wide Qpsk Alpha1 = refl
wide Qpsk Alpha2 = refl
wide Qpsk Alpha4 = refl
wide Qam16 Flat = refl
wide Qam16 Alpha1 = refl
wide Qam16 Alpha2 = refl
wide Qam16 Alpha4 = refl
wide Qam64 Flat = refl
wide Qam64 Alpha1 = refl
wide Qam64 Alpha2 = refl
wide Qam64 Alpha4 = refl

pub tolerated : IsTolerated
tolerated s h = ltb-true 63 (tolerance s h) (wide s h)
