-- The corrected cells of a file are read from its bytes, so they are those of the law over symbols.
use Rattle.std.proofs.Common.{◌≡◌, ℕ, zero, suc, ◌*◌, ◌/◌, ◌%◌, ◌<◌, ◌≤◌, List, [], ◌∷◌, length, get_or, refl, sym, ap, ap₂, ◌∙◌, subst, arith}
use Rattle.std.specs.Prelude.{ℤ, slice_index}
use Rattle.std.proofs.lemmas.List.FromFn.{length-map-range_with_len}
use Rattle.spec_words.specs.Words.{numbers}
use Rattle.mode_set.specs.StreamTable.{carriers}
use Rattle.mode_set.specs.declared.modes.Mode.{Mode}
use Rattle.mode_set.specs.declared.modes.Mode.TheVariants.{M2k, M8k}
use Rattle.mode_set.specs.declared.settings.Settings.{Settings}
use Rattle.qam_map.specs.Cells.{cell_of}
use Rattle.qam_map.specs.declared.cell.Cell.{Cell}
use Rattle.soft_metric.specs.Weights.{full_weight, weight_of_byte}
use Rattle.inner_chain.specs.CostPairs.{weight_of}
use Rattle.frame_build.specs.Symbol.{cells_from, weight_from, weights_from}
use Rattle.frame_build.specs.ReadBack.{IsWritable, bytes_of_cells, FiveBytesACell, CellsAreReadBack, WeightsAreReadBack}
use Rattle.frame_build.proofs.Parts.{parts_long, piece_is}
use Rattle.cell_equal.specs.Equal.{blank, gain_at, equalised, equalised_bytes, CorrectedAreCells}
use Rattle.cell_equal.specs.Files.{equalised_symbol}
use Rattle.cell_equal.specs.declared.equalised.Equalised.{Equalised}
use Rattle.symbol_parameters.specs.Spans.{settings_at}
use Rattle.transmission.specs.Transmission.{Inputs, tx_cell}
use Rattle.transmission.specs.SuperFrames.{symbols_of}
use Rattle.reception.specs.Cells.{symbol_length, symbols, bytes_of_symbol, symbol_cells, symbol_weights}
use Rattle.law_link.specs.Laws.{NoiseLaw, NoiseIsClean}
use Rattle.law_link.specs.Flat.{HasCome, IsRestored}
use Rattle.law_link.specs.Symbols.{TransmissionsComeBack, IsTolerated}
use Rattle.law_link.specs.FlatFiles.{equalised_symbols, HaveCome, FilesAreRestored, FilesAreWithin, FilesAreReturned, FilesAreClean}

-- the known facts on the bytes of cells
pub record AreRead : Type 0 where
  pub long : FiveBytesACell
  pub cells : CellsAreReadBack
  pub weights : WeightsAreReadBack
  pub fit : CorrectedAreCells

-- ---- symbols of corrected bytes
symbol_long : AreRead → (mode : Mode) (n : ℕ) (bytes : List ℕ) → length (equalised_symbol mode n bytes) ≡ 5 * carriers mode
unfolding equalised_symbol equalised_bytes
symbol_long known mode n bytes = known.long _ _ (carriers mode)

whole : (mode : Mode) (n : ℕ) → 5 * carriers mode * n / (5 * carriers mode) ≡ n
whole M2k n = omega arith
whole M8k n = omega arith

-- as many as before
as_many : AreRead → (s : Settings) (bytes : List ℕ) → symbols s (equalised_symbols s bytes) ≡ symbols s bytes
unfolding equalised_symbols
as_many known s bytes =
    ap (λ (z : ℕ). z / symbol_length s) (parts_long (λ n. equalised_symbol s.mode n (bytes_of_symbol s bytes n)) (symbol_length s) (λ n. symbol_long known s.mode n (bytes_of_symbol s bytes n)) (symbols s bytes))
    ∙ whole s.mode (symbols s bytes)

-- and each is the corrected one
symbol_is : AreRead → (s : Settings) (bytes : List ℕ) (m : ℕ) → m < symbols s bytes → bytes_of_symbol s (equalised_symbols s bytes) m ≡ equalised_symbol s.mode m (bytes_of_symbol s bytes m)
unfolding equalised_symbols bytes_of_symbol
symbol_is known s bytes m l =
    piece_is (λ n. equalised_symbol s.mode n (bytes_of_symbol s bytes n)) (symbol_length s) (λ n. symbol_long known s.mode n (bytes_of_symbol s bytes n)) (symbols s bytes) m l

-- ---- their cells
abbrev at : Settings → List ℕ → ℕ → ℕ → Equalised
at s bytes m k = equalised s.mode (m % 68) (symbol_cells s bytes m) (symbol_weights s bytes m) k

writable : AreRead → (s : Settings) (bytes : List ℕ) (m k : ℕ) → IsWritable (at s bytes m k).cell (at s bytes m k).weight
unfolding equalised
writable known s bytes m k = known.fit (gain_at s.mode (m % 68) (symbol_cells s bytes m) k) (get_or (symbol_cells s bytes m) k blank) (slice_index (symbol_weights s bytes m) k)

bytes_are : (s : Settings) (bytes : List ℕ) (m : ℕ) → equalised_symbol s.mode m (bytes_of_symbol s bytes m) ≡ bytes_of_cells (λ k. (at s bytes m k).cell) (λ k. (at s bytes m k).weight) (carriers s.mode)
unfolding equalised_symbol equalised_bytes symbol_cells symbol_weights
bytes_are s bytes m = refl

symbol_bytes_are : AreRead → (s : Settings) (bytes : List ℕ) (m : ℕ) → m < symbols s bytes
    → bytes_of_symbol s (equalised_symbols s bytes) m ≡ bytes_of_cells (λ k. (at s bytes m k).cell) (λ k. (at s bytes m k).weight) (carriers s.mode)
symbol_bytes_are known s bytes m l = symbol_is known s bytes m l ∙ bytes_are s bytes m

cell_is : AreRead → (s : Settings) (bytes : List ℕ) (m k : ℕ) → m < symbols s bytes → k < carriers s.mode → cell_of (symbol_cells s (equalised_symbols s bytes) m) k ≡ (at s bytes m k).cell
unfolding symbol_cells
cell_is known s bytes m k l few =
    ap (λ (z : List ℕ). cell_of (cells_from z (carriers s.mode)) k) (symbol_bytes_are known s bytes m l)
    ∙ known.cells (λ k. (at s bytes m k).cell) (λ k. (at s bytes m k).weight) (carriers s.mode) k blank few (writable known s bytes m k)

few_enough : (w : ℕ) → w ≤ 15 → weight_of_byte w ≡ w
few_enough w h = omega (arith, h)

weight_is : AreRead → (s : Settings) (bytes : List ℕ) (m k : ℕ) → m < symbols s bytes → k < carriers s.mode → weight_of (symbol_weights s (equalised_symbols s bytes) m) k ≡ (at s bytes m k).weight
unfolding symbol_weights
weight_is known s bytes m k l few =
    ap (λ (z : List ℕ). weight_of (weights_from z (carriers s.mode)) k) (symbol_bytes_are known s bytes m l)
    ∙ ap weight_of_byte (known.weights (λ k. (at s bytes m k).cell) (λ k. (at s bytes m k).weight) (carriers s.mode) k full_weight few (writable known s bytes m k))
    ∙ few_enough (at s bytes m k).weight (writable known s bytes m k).weight_most

-- ---- a weight that counts for a receiver counts for the correction
same_within : (ws : List ℕ) (k c d : ℕ) → k < length ws → get_or ws k c ≡ get_or ws k d
same_within [] k c d l = absurd (omega (arith, l))
same_within (w ∷ ws) zero c d l = refl
same_within (w ∷ ws) (suc k) c d l = same_within ws k c d (omega (arith, l))

weights_long : (s : Settings) (bytes : List ℕ) (m : ℕ) → length (symbol_weights s bytes m) ≡ carriers s.mode
unfolding symbol_weights weights_from numbers
weights_long s bytes m = length-map-range_with_len (weight_from (bytes_of_symbol s bytes m)) 0 (carriers s.mode)

counts : (s : Settings) (bytes : List ℕ) (m k : ℕ) → k < carriers s.mode → 1 ≤ weight_of (symbol_weights s bytes m) k → 1 ≤ slice_index (symbol_weights s bytes m) k
counts s bytes m k few h =
    let long = weights_long s bytes m in
    let same : get_or (symbol_weights s bytes m) k full_weight ≡ slice_index (symbol_weights s bytes m) k = same_within (symbol_weights s bytes m) k full_weight 0 (omega (arith, long, few)) in
    omega (arith, same, h)

-- ---- the laws
has_come : (s : Settings) (inputs : Inputs) (a b : ℤ) (bytes : List ℕ) → HaveCome s inputs a b bytes → (m : ℕ) → m < symbols_of s inputs → HasCome s.mode a b (tx_cell s inputs m) (symbol_cells s bytes m) (symbol_weights s bytes m)
has_come s inputs a b bytes come m l = record {
  cells = λ k few. come.through m k l few;
  counts = λ k few. counts s bytes m k few (come.counts m k l few);
}

same_cell : {c d : Cell} {v w : ℕ} → c ≡ d → v ≡ w → ◌≡◌ {A = Equalised} (record { cell = c; weight = v }) (record { cell = d; weight = w })
same_cell p q = ap₂ (λ (c : Cell) (w : ℕ). record { cell = c; weight = w }) p q

pub restored : AreRead → TransmissionsComeBack → FilesAreRestored
restored known law s inputs a b bytes flat come = record {
  all = as_many known s bytes ∙ come.all;
  each = λ m k l few.
      let held : m < symbols s bytes = omega (arith, l, come.all) in
      let back : IsRestored 64 (tx_cell s inputs m k) (at s bytes m k) = law s inputs a b (symbol_cells s bytes) (symbol_weights s bytes) flat (has_come s inputs a b bytes come) m l k few in
      subst (IsRestored 64 (tx_cell s inputs m k)) (sym (same_cell (cell_is known s bytes m k held few) (weight_is known s bytes m k held few))) back;
}

pub within : IsTolerated → FilesAreRestored → FilesAreWithin
within wide law s inputs a b bytes flat come =
    let back = law s inputs a b bytes flat come in
    record {
      all = back.all;
      near = λ m k l few free. let near = back.each m k l few in let by = settings_at s m in let w = wide by.shape by.hierarchy in record { re = omega (arith, near.re, w); im = omega (arith, near.im, w) };
      weight = λ m k l few free. (back.each m k l few).weight;
    }

pub returned : NoiseLaw → FilesAreWithin → FilesAreReturned
returned noise law s inputs a b bytes r from_start have flat come final = noise s inputs (equalised_symbols s bytes) r from_start have (law s inputs a b bytes flat come) final

pub clean : NoiseIsClean → FilesAreWithin → FilesAreClean
clean noise law s inputs a b bytes r from_start have flat come final = noise s inputs (equalised_symbols s bytes) r from_start have (law s inputs a b bytes flat come) final
