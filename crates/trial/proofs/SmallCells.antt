-- Both parts of a cell are small, so cells are read from their bytes.
use Rattle.std.proofs.Common.{◌≡◌, ℕ, zero, suc, ◌+◌, ◌*◌, ◌%◌, ◌^◌, ◌<◌, ◌≤◌, List, [], ◌∷◌, ◌++◌, length, drop, refl, sym, ap, ap₂, ◌∙◌, subst, arith, length-append, ltb, Bool, true, false, ◌&&◌}
use Rattle.std.specs.Prelude.{ℤ, unsigned_abs, flat_map}
use Rattle.std.specs.Int.{cast_signed, cast_unsigned, w16}
use Rattle.std.specs.List.{range_with_len}
use Rattle.std.proofs.lemmas.Bool.{and_parts, ltb-true}
use Rattle.std.proofs.lemmas.Int.{to_z-of_z, fits_signed_from_abs}
use Rattle.std.proofs.lemmas.List.{drop-drop}
use Rattle.std.proofs.Math.Facts.{Fits-of_z}
use Rattle.std.proofs.Math.Seq.{drop-append-add}
use Rattle.byteorder.specs.Endian.{big_bytes, big_number}
use Rattle.byteorder.specs.Numbers.{big_number-reads_back}
use Rattle.spec_words.specs.Words.{numbers}
use Rattle.mode_set.specs.StreamTable.{carriers}
use Rattle.mode_set.specs.declared.modes.Shape.{Shape}
use Rattle.mode_set.specs.declared.modes.Shape.TheVariants.{Qpsk, Qam16, Qam64}
use Rattle.mode_set.specs.declared.modes.Hierarchy.{Hierarchy}
use Rattle.mode_set.specs.declared.modes.Hierarchy.TheVariants.{Flat, Alpha1, Alpha2, Alpha4}
use Rattle.mode_set.specs.declared.settings.Settings.{Settings}
use Rattle.pilots.specs.declared.carrier_kind.CarrierKind.{CarrierKind}
use Rattle.pilots.specs.declared.carrier_kind.CarrierKind.TheVariants.{Continual, Scattered, Tps, Payload}
use Rattle.pilots.specs.Carriers.{kind}
use Rattle.pilots.specs.Reference.{reference}
use Rattle.qam_map.specs.declared.cell.Cell.{Cell}
use Rattle.qam_map.specs.Points.{value_of, real_bits, imaginary_bits}
use Rattle.frame_build.specs.Announcing.{announcing_cell, settings_for}
use Rattle.frame_build.specs.Symbol.{real, cell_of_kind, cell_bytes, sent_bytes, cell_from}
use Rattle.symbol_parameters.specs.Spans.{settings_at}
use Rattle.transmission.specs.Transmission.{Inputs, announced_at, tx_label, tx_cell, tx_symbol}
use Rattle.transmission.specs.Laws.{SymbolsAreCells}
use Rattle.trial.specs.Fed.{fed_cell, fed_symbol}
use Rattle.trial.specs.Laws.{IsSmall, CellsAreSmall, CellsAreRead, FedSymbolsAreLong}

-- ---- values of an axis
abbrev is_small : ℤ → Bool
is_small z = ltb (unsigned_abs z) 21846

abbrev for_bits : (Bool → Bool) → Bool
for_bits f = f false && f true

for_bits_at : (f : Bool → Bool) (b : Bool) → for_bits f ≡ true → f b ≡ true
for_bits_at f false h = (and_parts _ _ h).0
for_bits_at f true h = (and_parts _ _ h).1

abbrev one : Shape → Hierarchy → Bool
one s h = for_bits (λ a. is_small (value_of s h (a ∷ [])))

abbrev two : Shape → Hierarchy → Bool
two s h = for_bits (λ a. for_bits (λ b. is_small (value_of s h (a ∷ b ∷ []))))

abbrev three : Shape → Hierarchy → Bool
three s h = for_bits (λ a. for_bits (λ b. for_bits (λ c. is_small (value_of s h (a ∷ b ∷ c ∷ [])))))

values_2 : (h : Hierarchy) → one Qpsk h ≡ true
values_2 h = refl

values_4 : (h : Hierarchy) → two Qam16 h ≡ true
values_4 Flat = refl
values_4 Alpha1 = refl
values_4 Alpha2 = refl
values_4 Alpha4 = refl

values_6 : (h : Hierarchy) → three Qam64 h ≡ true
values_6 Flat = refl
values_6 Alpha1 = refl
values_6 Alpha2 = refl
values_6 Alpha4 = refl

real_small : (s : Shape) (h : Hierarchy) (y : ℕ → Bool) → is_small (value_of s h (real_bits s y)) ≡ true
unfolding numbers
real_small Qpsk h y = for_bits_at (λ a. is_small (value_of Qpsk h (a ∷ []))) (y 0) (values_2 h)
real_small Qam16 h y = for_bits_at (λ b. is_small (value_of Qam16 h (y 0 ∷ b ∷ []))) (y 2) (for_bits_at (λ a. for_bits (λ b. is_small (value_of Qam16 h (a ∷ b ∷ [])))) (y 0) (values_4 h))
real_small Qam64 h y =
    for_bits_at (λ c. is_small (value_of Qam64 h (y 0 ∷ y 2 ∷ c ∷ []))) (y 4)
    (for_bits_at (λ b. for_bits (λ c. is_small (value_of Qam64 h (y 0 ∷ b ∷ c ∷ [])))) (y 2)
    (for_bits_at (λ a. for_bits (λ b. for_bits (λ c. is_small (value_of Qam64 h (a ∷ b ∷ c ∷ []))))) (y 0) (values_6 h)))

imaginary_small : (s : Shape) (h : Hierarchy) (y : ℕ → Bool) → is_small (value_of s h (imaginary_bits s y)) ≡ true
unfolding numbers
imaginary_small Qpsk h y = for_bits_at (λ a. is_small (value_of Qpsk h (a ∷ []))) (y 1) (values_2 h)
imaginary_small Qam16 h y = for_bits_at (λ b. is_small (value_of Qam16 h (y 1 ∷ b ∷ []))) (y 3) (for_bits_at (λ a. for_bits (λ b. is_small (value_of Qam16 h (a ∷ b ∷ [])))) (y 1) (values_4 h))
imaginary_small Qam64 h y =
    for_bits_at (λ c. is_small (value_of Qam64 h (y 1 ∷ y 3 ∷ c ∷ []))) (y 5)
    (for_bits_at (λ b. for_bits (λ c. is_small (value_of Qam64 h (y 1 ∷ b ∷ c ∷ [])))) (y 3)
    (for_bits_at (λ a. for_bits (λ b. for_bits (λ c. is_small (value_of Qam64 h (a ∷ b ∷ c ∷ []))))) (y 1) (values_6 h)))

-- ---- cells
few : (z : ℤ) → is_small z ≡ true → unsigned_abs z ≤ 21845
few z h = let l = ltb-true (unsigned_abs z) 21846 h in omega (arith, l)

made : (re im : ℤ) → is_small re ≡ true → is_small im ≡ true → IsSmall (record { re = re; im = im })
made re im h k = record { re = few re h; im = few im k }

pilot_small : (b : Bool) → IsSmall (real 21845 b)
pilot_small true = record { re = omega arith; im = omega arith }
pilot_small false = record { re = omega arith; im = omega arith }

signal_small : (b : Bool) → IsSmall (real 16384 b)
signal_small true = record { re = omega arith; im = omega arith }
signal_small false = record { re = omega arith; im = omega arith }

kind_small : (s : Settings) (m : ℕ) (labels : ℕ → ℕ → Bool) (k : ℕ) (kd : CarrierKind) → IsSmall (cell_of_kind s m labels k kd)
unfolding cell_of_kind
kind_small s m labels k Continual = pilot_small (reference k)
kind_small s m labels k Scattered = pilot_small (reference k)
kind_small s m labels k Tps = signal_small _
kind_small s m labels k (Payload q) = made _ _ (real_small s.shape s.hierarchy (labels q)) (imaginary_small s.shape s.hierarchy (labels q))

pub cells_are_small : CellsAreSmall
unfolding tx_cell announcing_cell
cells_are_small s inputs m k = let kd : CarrierKind = kind (settings_at s m).mode (m % 68) k in kind_small (settings_for (settings_at s m) (announced_at s m) kd) m (tx_label s inputs m) k kd

-- ---- a part among parts of the same length
record BeginsWith (xs part : List ℕ) : Type 0 where
  rest : List ℕ
  is : xs ≡ part ++ rest

part_from : (f : ℕ → List ℕ) (c a n k : ℕ) → ((i : ℕ) → length (f i) ≡ c) → k < n → BeginsWith (drop (c * k) (flat_map f (range_with_len a n))) (f (a + k))
part_from f c a zero k long l = absurd (omega (arith, l))
part_from f c a (suc n) zero long l =
    let none : c * 0 ≡ 0 = omega arith in
    let here : a + 0 ≡ a = omega arith in
    record {
      rest = flat_map f (range_with_len (a + 1) n);
      is = ap (λ (z : ℕ). drop z (f a ++ flat_map f (range_with_len (a + 1) n))) none ∙ ap (λ (z : ℕ). f z ++ flat_map f (range_with_len (a + 1) n)) (sym here);
    }
part_from f c a (suc n) (suc k) long l =
    let h = part_from f c (a + 1) n k long (omega (arith, l)) in
    let next : c * suc k ≡ length (f a) + c * k = omega (arith, long a) in
    let same : a + 1 + k ≡ a + suc k = omega arith in
    record {
      rest = h.rest;
      is =
          ap (λ (z : ℕ). drop z (f a ++ flat_map f (range_with_len (a + 1) n))) next
          ∙ drop-append-add (f a) (flat_map f (range_with_len (a + 1) n)) (c * k)
          ∙ h.is
          ∙ ap (λ (z : ℕ). f z ++ h.rest) same;
    }

-- ---- a cell is read
within_16 : (z : ℤ) → unsigned_abs z ≤ 21845 → unsigned_abs z < 32768
within_16 z l = omega (arith, l)

read_from : (z : ℤ) (xs rest : List ℕ) → unsigned_abs z ≤ 21845 → xs ≡ big_bytes 2 (cast_unsigned w16 z) ++ rest → cast_signed w16 (big_number 2 xs) ≡ z
read_from z xs rest l e =
    let f = Fits-of_z {w = w16} {z = z} (fits_signed_from_abs w16 z (within_16 z l)) in
    let written : cast_unsigned w16 z < 256 ^ 2 = omega (arith, f.fits) in
    ap (λ (y : List ℕ). cast_signed w16 (big_number 2 y)) e
    ∙ ap (cast_signed w16) (big_number-reads_back 2 (cast_unsigned w16 z) rest written)
    ∙ to_z-of_z w16 z (fits_signed_from_abs w16 z (within_16 z l))

cell_is : (c : Cell) (xs : List ℕ) (k : ℕ) → IsSmall c → BeginsWith (drop (5 * k) xs) (sent_bytes c) → cell_from xs k ≡ c
unfolding cell_from sent_bytes cell_bytes
cell_is c xs k small b = both (read_from c.re (drop (5 * k) xs) (big_bytes 2 (cast_unsigned w16 c.im) ++ (15 ∷ b.rest)) small.re first) (read_from c.im (drop (5 * k + 2) xs) (15 ∷ b.rest) small.im second)
  where
    first : drop (5 * k) xs ≡ big_bytes 2 (cast_unsigned w16 c.re) ++ (big_bytes 2 (cast_unsigned w16 c.im) ++ (15 ∷ b.rest))
    first = b.is

    second : drop (5 * k + 2) xs ≡ big_bytes 2 (cast_unsigned w16 c.im) ++ (15 ∷ b.rest)
    second = sym (drop-drop 2 (5 * k) xs) ∙ ap (drop 2) first

    both : {re im : ℤ} → re ≡ c.re → im ≡ c.im → ◌≡◌ {A = Cell} (record { re = re; im = im }) c
    both p q = ap₂ (λ (x y : ℤ). record { re = x; im = y }) p q

five : (c : Cell) → length (sent_bytes c) ≡ 5
unfolding sent_bytes cell_bytes
five c = refl

cell_in : SymbolsAreCells → (s : Settings) (inputs : Inputs) (m k : ℕ) → k < carriers s.mode → BeginsWith (drop (5 * k) (tx_symbol s inputs m)) (sent_bytes (tx_cell s inputs m k))
unfolding numbers
cell_in cells s inputs m k l =
    let here : 0 + k ≡ k = omega arith in
    subst (λ (z : ℕ). BeginsWith (drop (5 * k) (tx_symbol s inputs m)) (sent_bytes (tx_cell s inputs m z))) here
    (subst (λ (z : List ℕ). BeginsWith (drop (5 * k) z) (sent_bytes (tx_cell s inputs m (0 + k)))) (sym (cells s inputs m))
    (part_from (λ i. sent_bytes (tx_cell s inputs m i)) 5 0 (carriers s.mode) k (λ i. five (tx_cell s inputs m i)) l))

pub cells_are_read : SymbolsAreCells → CellsAreRead
cells_are_read cells s inputs m k l = cell_is (tx_cell s inputs m k) (tx_symbol s inputs m) k (cells_are_small s inputs m k) (cell_in cells s inputs m k l)

-- ---- the length of a disturbed symbol
parts_of_one_length : (f : ℕ → List ℕ) (c a n : ℕ) → ((k : ℕ) → length (f k) ≡ c) → length (flat_map f (range_with_len a n)) ≡ c * n
parts_of_one_length f c a zero each = omega arith
parts_of_one_length f c a (suc n) each =
    let rest : length (flat_map f (range_with_len (a + 1) n)) ≡ c * n = parts_of_one_length f c (a + 1) n each in
    let here : length (f a) ≡ c = each a in
    let both = length-append (f a) (flat_map f (range_with_len (a + 1) n)) in
    omega (arith, rest, here, both)

pub fed_symbols_are_long : FedSymbolsAreLong
unfolding fed_symbol numbers
fed_symbols_are_long s number m = parts_of_one_length (λ k. sent_bytes (fed_cell s number m k)) 5 0 (carriers s.mode) (λ k. five (fed_cell s number m k))
