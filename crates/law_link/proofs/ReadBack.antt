-- The cells of a transmission are read from its bytes.
use Rattle.std.proofs.Common.{◌≡◌, ℕ, zero, suc, ◌+◌, ◌*◌, ◌/◌, ◌%◌, ◌^◌, ◌<◌, ◌≤◌, List, [], ◌∷◌, ◌++◌, length, take, drop, refl, sym, ap, ap₂, ◌∙◌, subst, arith, length-append, ltb, Bool, true, false, ◌&&◌, get_or}
use Rattle.std.specs.Prelude.{ℤ, pos, unsigned_abs, flat_map}
use Rattle.std.specs.Int.{cast_signed, cast_unsigned, w16}
use Rattle.std.specs.List.{range_with_len}
use Rattle.std.proofs.lemmas.Bool.{and_parts, ltb-true}
use Rattle.std.proofs.lemmas.Int.{ints, to_z-of_z, fits_signed_from_abs}
use Rattle.std.proofs.lemmas.List.{drop-drop, get_or-drop}
use Rattle.std.proofs.lemmas.List.FromFn.{get_or-map-range_with_len}
use Rattle.std.proofs.Math.Facts.{Fits-of_z}
use Rattle.std.proofs.Math.Seq.{drop-append-add, take-append_seam}
use Rattle.byteorder.specs.Endian.{big_bytes, big_number}
use Rattle.byteorder.specs.Numbers.{big_number-reads_back}
use Rattle.spec_words.specs.Words.{numbers}
use Rattle.mode_set.specs.StreamTable.{carriers}
use Rattle.mode_set.specs.declared.modes.Mode.{Mode}
use Rattle.mode_set.specs.declared.modes.Mode.TheVariants.{M2k, M8k}
use Rattle.mode_set.specs.declared.modes.Shape.{Shape}
use Rattle.mode_set.specs.declared.modes.Shape.TheVariants.{Qpsk, Qam16, Qam64}
use Rattle.mode_set.specs.declared.modes.Hierarchy.{Hierarchy}
use Rattle.mode_set.specs.declared.modes.Hierarchy.TheVariants.{Flat, Alpha1, Alpha2, Alpha4}
use Rattle.mode_set.specs.declared.settings.Settings.{Settings}
use Rattle.pilots.specs.declared.carrier_kind.CarrierKind.{CarrierKind}
use Rattle.pilots.specs.declared.carrier_kind.CarrierKind.TheVariants.{Continual, Scattered, Tps, Payload}
use Rattle.pilots.specs.Carriers.{kind}
use Rattle.pilots.specs.Reference.{reference}
use Rattle.qam_map.specs.declared.cell.Cell.{Cell}
use Rattle.qam_map.specs.Points.{value_of, real_bits, imaginary_bits, distance}
use Rattle.soft_metric.specs.Costs.{IsNear}
use Rattle.frame_build.specs.Announcing.{announcing_cell, settings_for}
use Rattle.frame_build.specs.Symbol.{real, cell_of_kind, cell_bytes, sent_bytes, cell_from, weight_from, cells_from, weights_from}
use Rattle.soft_metric.specs.Weights.{weight_of_byte}
use Rattle.inner_chain.specs.CostPairs.{weight_of}
use Rattle.symbol_parameters.specs.Spans.{settings_at}
use Rattle.transmission.specs.Transmission.{Inputs, announced_at, tx_label, tx_cell, tx_symbol, first_symbols}
use Rattle.transmission.specs.SuperFrames.{symbols_of, tx}
use Rattle.transmission.specs.Laws.{SymbolsAreCells, SymbolsAreLong}
use Rattle.reception.specs.Cells.{symbol_length, symbols, bytes_of_symbol, symbol_cells, symbol_weights}
use Rattle.law_link.specs.Laws.{CellsAreRead, OwnAreWithin, NoiseLaw, NoiseIsClean, CleanLaw, OwnAreClean}

-- ---- both parts of a cell fit 16 bits
abbrev pub is_small : ℤ → Bool
is_small z = ltb (unsigned_abs z) 32768

abbrev for_bits : (Bool → Bool) → Bool
for_bits f = f false && f true

for_bits_at : (f : Bool → Bool) (b : Bool) → for_bits f ≡ true → f b ≡ true
for_bits_at f false h = (and_parts _ _ h).0
for_bits_at f true h = (and_parts _ _ h).1

abbrev one : Shape → Hierarchy → Bool
one s h = for_bits (λ a. is_small (value_of s h (a ∷ [])))

abbrev two : Shape → Hierarchy → Bool
two s h = for_bits (λ a. for_bits (λ b. is_small (value_of s h (a ∷ b ∷ []))))

abbrev three : Shape → Hierarchy → Bool
three s h = for_bits (λ a. for_bits (λ b. for_bits (λ c. is_small (value_of s h (a ∷ b ∷ c ∷ [])))))

values_2 : (h : Hierarchy) → one Qpsk h ≡ true
values_2 h = refl

values_4 : (h : Hierarchy) → two Qam16 h ≡ true
values_4 Flat = refl
values_4 Alpha1 = refl
values_4 Alpha2 = refl
values_4 Alpha4 = refl

values_6 : (h : Hierarchy) → three Qam64 h ≡ true
values_6 Flat = refl
values_6 Alpha1 = refl
values_6 Alpha2 = refl
values_6 Alpha4 = refl

real_small : (s : Shape) (h : Hierarchy) (y : ℕ → Bool) → is_small (value_of s h (real_bits s y)) ≡ true
unfolding numbers
real_small Qpsk h y = for_bits_at (λ a. is_small (value_of Qpsk h (a ∷ []))) (y 0) (values_2 h)
real_small Qam16 h y = for_bits_at (λ b. is_small (value_of Qam16 h (y 0 ∷ b ∷ []))) (y 2) (for_bits_at (λ a. for_bits (λ b. is_small (value_of Qam16 h (a ∷ b ∷ [])))) (y 0) (values_4 h))
real_small Qam64 h y =
    for_bits_at (λ c. is_small (value_of Qam64 h (y 0 ∷ y 2 ∷ c ∷ []))) (y 4)
    (for_bits_at (λ b. for_bits (λ c. is_small (value_of Qam64 h (y 0 ∷ b ∷ c ∷ [])))) (y 2)
    (for_bits_at (λ a. for_bits (λ b. for_bits (λ c. is_small (value_of Qam64 h (a ∷ b ∷ c ∷ []))))) (y 0) (values_6 h)))

imaginary_small : (s : Shape) (h : Hierarchy) (y : ℕ → Bool) → is_small (value_of s h (imaginary_bits s y)) ≡ true
unfolding numbers
imaginary_small Qpsk h y = for_bits_at (λ a. is_small (value_of Qpsk h (a ∷ []))) (y 1) (values_2 h)
imaginary_small Qam16 h y = for_bits_at (λ b. is_small (value_of Qam16 h (y 1 ∷ b ∷ []))) (y 3) (for_bits_at (λ a. for_bits (λ b. is_small (value_of Qam16 h (a ∷ b ∷ [])))) (y 1) (values_4 h))
imaginary_small Qam64 h y =
    for_bits_at (λ c. is_small (value_of Qam64 h (y 1 ∷ y 3 ∷ c ∷ []))) (y 5)
    (for_bits_at (λ b. for_bits (λ c. is_small (value_of Qam64 h (y 1 ∷ b ∷ c ∷ [])))) (y 3)
    (for_bits_at (λ a. for_bits (λ b. for_bits (λ c. is_small (value_of Qam64 h (a ∷ b ∷ c ∷ []))))) (y 1) (values_6 h)))

-- so a cell is read from its bytes
pub record IsSmallCell (c : Cell) : Type 0 where
  pub re : is_small c.re ≡ true
  pub im : is_small c.im ≡ true

pilot_small : (b : Bool) → IsSmallCell (real 21845 b)
pilot_small true = record { re = refl; im = refl }
pilot_small false = record { re = refl; im = refl }

signal_small : (b : Bool) → IsSmallCell (real 16384 b)
signal_small true = record { re = refl; im = refl }
signal_small false = record { re = refl; im = refl }

kind_small : (s : Settings) (m : ℕ) (labels : ℕ → ℕ → Bool) (k : ℕ) (kd : CarrierKind) → IsSmallCell (cell_of_kind s m labels k kd)
unfolding cell_of_kind
kind_small s m labels k Continual = pilot_small (reference k)
kind_small s m labels k Scattered = pilot_small (reference k)
kind_small s m labels k Tps = signal_small _
kind_small s m labels k (Payload q) = record { re = real_small s.shape s.hierarchy (labels q); im = imaginary_small s.shape s.hierarchy (labels q) }

cell_small : (s : Settings) (inputs : Inputs) (m k : ℕ) → IsSmallCell (tx_cell s inputs m k)
unfolding tx_cell announcing_cell
cell_small s inputs m k = let kd : CarrierKind = kind (settings_at s m).mode (m % 68) k in kind_small (settings_for (settings_at s m) (announced_at s m) kd) m (tx_label s inputs m) k kd

-- ---- a part among parts of the same length
pub record BeginsWith (xs part : List ℕ) : Type 0 where
  pub rest : List ℕ
  pub is : xs ≡ part ++ rest

part_from : (f : ℕ → List ℕ) (c a n k : ℕ) → ((i : ℕ) → length (f i) ≡ c) → k < n → BeginsWith (drop (c * k) (flat_map f (range_with_len a n))) (f (a + k))
part_from f c a zero k long l = absurd (omega (arith, l))
part_from f c a (suc n) zero long l =
    let none : c * 0 ≡ 0 = omega arith in
    let here : a + 0 ≡ a = omega arith in
    record {
      rest = flat_map f (range_with_len (a + 1) n);
      is = ap (λ (z : ℕ). drop z (f a ++ flat_map f (range_with_len (a + 1) n))) none ∙ ap (λ (z : ℕ). f z ++ flat_map f (range_with_len (a + 1) n)) (sym here);
    }
part_from f c a (suc n) (suc k) long l =
    let h = part_from f c (a + 1) n k long (omega (arith, l)) in
    let next : c * suc k ≡ length (f a) + c * k = omega (arith, long a) in
    let same : a + 1 + k ≡ a + suc k = omega arith in
    record {
      rest = h.rest;
      is =
          ap (λ (z : ℕ). drop z (f a ++ flat_map f (range_with_len (a + 1) n))) next
          ∙ drop-append-add (f a) (flat_map f (range_with_len (a + 1) n)) (c * k)
          ∙ h.is
          ∙ ap (λ (z : ℕ). f z ++ h.rest) same;
    }

-- ---- one cell
small_at : (z : ℤ) → is_small z ≡ true → cast_signed w16 (cast_unsigned w16 z) ≡ z
small_at z h = to_z-of_z w16 z (fits_signed_from_abs w16 z (ltb-true _ _ h))

written_small : (z : ℤ) → is_small z ≡ true → cast_unsigned w16 z < 256 ^ 2
written_small z h = let f = Fits-of_z {w = w16} {z = z} (fits_signed_from_abs w16 z (ltb-true _ _ h)) in omega (arith, f.fits)

read_from : (z : ℤ) (xs rest : List ℕ) → is_small z ≡ true → xs ≡ big_bytes 2 (cast_unsigned w16 z) ++ rest → cast_signed w16 (big_number 2 xs) ≡ z
read_from z xs rest h e = ap (λ (y : List ℕ). cast_signed w16 (big_number 2 y)) e ∙ ap (cast_signed w16) (big_number-reads_back 2 (cast_unsigned w16 z) rest (written_small z h)) ∙ small_at z h

-- a cell whose bytes start at 5 k
cell_is : (c : Cell) (xs : List ℕ) (k : ℕ) → IsSmallCell c → BeginsWith (drop (5 * k) xs) (sent_bytes c) → cell_from xs k ≡ c
unfolding cell_from sent_bytes cell_bytes
cell_is c xs k small b = made (read_from c.re (drop (5 * k) xs) (big_bytes 2 (cast_unsigned w16 c.im) ++ (15 ∷ b.rest)) small.re first) (read_from c.im (drop (5 * k + 2) xs) (15 ∷ b.rest) small.im second)
  where
    first : drop (5 * k) xs ≡ big_bytes 2 (cast_unsigned w16 c.re) ++ (big_bytes 2 (cast_unsigned w16 c.im) ++ (15 ∷ b.rest))
    first = b.is

    second : drop (5 * k + 2) xs ≡ big_bytes 2 (cast_unsigned w16 c.im) ++ (15 ∷ b.rest)
    second = sym (drop-drop 2 (5 * k) xs) ∙ ap (drop 2) first

    made : {re im : ℤ} → re ≡ c.re → im ≡ c.im → ◌≡◌ {A = Cell} (record { re = re; im = im }) c
    made p q = ap₂ (λ (x y : ℤ). record { re = x; im = y }) p q

-- its weight follows it
weight_is : (c : Cell) (xs : List ℕ) (k : ℕ) → BeginsWith (drop (5 * k) xs) (sent_bytes c) → weight_from xs k ≡ 15
unfolding weight_from sent_bytes cell_bytes
weight_is c xs k b = ap weight_of_byte (sym (get_or-drop (5 * k) xs 4 0) ∙ ap (λ (z : List ℕ). get_or z 4 0) b.is)

five : (c : Cell) → length (sent_bytes c) ≡ 5
unfolding sent_bytes cell_bytes
five c = refl

-- ---- all cells
long_symbols : SymbolsAreLong → (s : Settings) (inputs : Inputs) (a n : ℕ) → length (flat_map (tx_symbol s inputs) (range_with_len a n)) ≡ n * symbol_length s
long_symbols long s inputs a zero = omega arith
long_symbols long s inputs a (suc n) =
    let both = length-append (tx_symbol s inputs a) (flat_map (tx_symbol s inputs) (range_with_len (a + 1) n)) in
    let here = long s inputs a in
    let rest = long_symbols long s inputs (a + 1) n in
    omega (arith, both, here, rest)

whole_of : (m : Mode) (n : ℕ) → n * (5 * carriers m) / (5 * carriers m) ≡ n
whole_of M2k n = omega arith
whole_of M8k n = omega arith

symbols_read : SymbolsAreLong → (s : Settings) (inputs : Inputs) → symbols s (tx s inputs) ≡ symbols_of s inputs
unfolding first_symbols numbers
symbols_read long s inputs = ap (λ (z : ℕ). z / symbol_length s) (long_symbols long s inputs 0 (symbols_of s inputs)) ∙ whole_of s.mode (symbols_of s inputs)

symbol_read : SymbolsAreLong → (s : Settings) (inputs : Inputs) (m : ℕ) → m < symbols_of s inputs → bytes_of_symbol s (tx s inputs) m ≡ tx_symbol s inputs m
unfolding first_symbols numbers bytes_of_symbol
symbol_read long s inputs m l =
    let b = part_from (tx_symbol s inputs) (symbol_length s) 0 (symbols_of s inputs) m (λ i. long s inputs i) l in
    let place : m * symbol_length s ≡ symbol_length s * m = omega arith in
    let here : 0 + m ≡ m = omega arith in
    ap (λ (z : ℕ). take (symbol_length s) (drop z (tx s inputs))) place
    ∙ ap (take (symbol_length s)) b.is
    ∙ ap (λ (z : ℕ). take (symbol_length s) (tx_symbol s inputs z ++ b.rest)) here
    ∙ ap (λ (z : ℕ). take z (tx_symbol s inputs m ++ b.rest)) (sym (long s inputs m))
    ∙ take-append_seam (tx_symbol s inputs m) b.rest

cell_in : SymbolsAreCells → (s : Settings) (inputs : Inputs) (m k : ℕ) → k < carriers s.mode → BeginsWith (drop (5 * k) (tx_symbol s inputs m)) (sent_bytes (tx_cell s inputs m k))
unfolding numbers
cell_in cells s inputs m k l =
    let here : 0 + k ≡ k = omega arith in
    subst (λ (z : ℕ). BeginsWith (drop (5 * k) (tx_symbol s inputs m)) (sent_bytes (tx_cell s inputs m z))) here
    (subst (λ (z : List ℕ). BeginsWith (drop (5 * k) z) (sent_bytes (tx_cell s inputs m (0 + k)))) (sym (cells s inputs m))
    (part_from (λ i. sent_bytes (tx_cell s inputs m i)) 5 0 (carriers s.mode) k (λ i. five (tx_cell s inputs m i)) l))

pub cells_are_read : SymbolsAreLong → SymbolsAreCells → CellsAreRead
unfolding symbol_cells cells_from numbers
cells_are_read long cells s inputs m k lm lk =
    let here : 0 + k ≡ k = omega arith in
    get_or-map-range_with_len (cell_from (bytes_of_symbol s (tx s inputs) m)) 0 (carriers s.mode) k k (record { re = pos 0; im = pos 0 }) lk here
    ∙ ap (λ (z : List ℕ). cell_from z k) (symbol_read long s inputs m lm)
    ∙ cell_is (tx_cell s inputs m k) (tx_symbol s inputs m) k (cell_small s inputs m k) (cell_in cells s inputs m k lk)

-- ---- own cells are within the tolerance
no_distance : (z : ℤ) → distance z z ≡ 0
no_distance z = omega (arith, ints)

near_itself : (s : Shape) (h : Hierarchy) (c : Cell) → IsNear s h c c
near_itself s h c = record { re = few (no_distance c.re); im = few (no_distance c.im) }
  where
    few : {a b : ℕ} → a ≡ 0 → a ≤ b
    few e = omega (arith, e)

-- own cells have full weight
weights_are_read : SymbolsAreLong → SymbolsAreCells → (s : Settings) (inputs : Inputs) (m k : ℕ) → m < symbols_of s inputs → k < carriers s.mode → get_or (symbol_weights s (tx s inputs) m) k 15 ≡ 15
unfolding symbol_weights weights_from numbers
weights_are_read long cells s inputs m k lm lk =
    let here : 0 + k ≡ k = omega arith in
    get_or-map-range_with_len (weight_from (bytes_of_symbol s (tx s inputs) m)) 0 (carriers s.mode) k k 15 lk here
    ∙ ap (λ (z : List ℕ). weight_from z k) (symbol_read long s inputs m lm)
    ∙ weight_is (tx_cell s inputs m k) (tx_symbol s inputs m) k (cell_in cells s inputs m k lk)

some_read : SymbolsAreLong → SymbolsAreCells → (s : Settings) (inputs : Inputs) (m k : ℕ) → m < symbols_of s inputs → k < carriers s.mode → 1 ≤ weight_of (symbol_weights s (tx s inputs) m) k
some_read long cells s inputs m k lm lk = omega (arith, weights_are_read long cells s inputs m k lm lk)

pub own_are_within : SymbolsAreLong → SymbolsAreCells → OwnAreWithin
own_are_within long cells s inputs = record {
  all = symbols_read long s inputs;
  near = λ m k lm lk free. subst (IsNear (settings_at s m).shape (settings_at s m).hierarchy (tx_cell s inputs m k)) (sym (cells_are_read long cells s inputs m k lm lk)) (near_itself (settings_at s m).shape (settings_at s m).hierarchy (tx_cell s inputs m k));
  weight = λ m k lm lk free. some_read long cells s inputs m k lm lk;
}

pub clean_law : SymbolsAreLong → SymbolsAreCells → NoiseLaw → CleanLaw
clean_law long cells noise s inputs r e have f = noise s inputs (tx s inputs) r e have (own_are_within long cells s inputs) f

pub own_are_clean : SymbolsAreLong → SymbolsAreCells → NoiseIsClean → OwnAreClean
own_are_clean long cells noise s inputs r e have f = noise s inputs (tx s inputs) r e have (own_are_within long cells s inputs) f
