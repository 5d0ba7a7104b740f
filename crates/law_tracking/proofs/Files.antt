-- The corrected cells of a file are read from its bytes, so they are those of its corrected symbols.
use Rattle.std.proofs.Common.{◌≡◌, ℕ, zero, suc, ◌+◌, ◌*◌, ◌/◌, ◌<◌, ◌≤◌, List, [], ◌∷◌, length, get_or, refl, sym, ap, ap₂, ◌∙◌, subst, arith}
use Rattle.std.specs.Prelude.{ℤ, pos, nat_abs, ◌-ℤ◌, slice_index, Option, Some, option_map, unwrap_or}
use Rattle.std.specs.Int.{w16}
use Rattle.std.specs.Int.RustNames.{FitsSigned}
use Rattle.std.proofs.lemmas.Int.{ints}
use Rattle.std.proofs.lemmas.List.FromFn.{length-map-range_with_len, get_or-map-range_with_len}
use Rattle.spec_words.specs.Words.{numbers}
use Rattle.spec_words.proofs.Sizes.{Below}
use Rattle.mode_set.specs.StreamTable.{carriers}
use Rattle.mode_set.specs.declared.modes.Mode.{Mode}
use Rattle.mode_set.specs.declared.modes.Mode.TheVariants.{M2k, M8k}
use Rattle.mode_set.specs.declared.settings.Settings.{Settings}
use Rattle.qam_map.specs.Cells.{cell_of}
use Rattle.qam_map.specs.declared.cell.Cell.{Cell}
use Rattle.soft_metric.specs.Weights.{full_weight, weight_of_byte}
use Rattle.inner_chain.specs.CostPairs.{weight_of}
use Rattle.frame_build.specs.Symbol.{cells_from, weight_from, weights_from}
use Rattle.frame_build.specs.ReadBack.{IsWritable, bytes_of_cells, FiveBytesACell, CellsAreReadBack, WeightsAreReadBack}
use Rattle.frame_build.proofs.Parts.{parts_long, piece_is}
use Rattle.tracking.specs.Tracking.{Symbol, tracked, tracked_bytes}
use Rattle.tracking.specs.declared.tracked.Tracked.{Tracked}
use Rattle.cell_equal.specs.declared.equalised.Equalised.{Equalised}
use Rattle.symbol_parameters.specs.Laws.{ModeStays}
use Rattle.symbol_parameters.specs.Spans.{settings_at}
use Rattle.transmission.specs.Transmission.{Inputs, tx_cell}
use Rattle.transmission.specs.Laws.{TheNumberIsFound}
use Rattle.transmission.specs.SuperFrames.{IsLength, AreSuperFrames, super_frames, counts_of, symbols_of}
use Rattle.reception.specs.Cells.{symbol_length, symbols, bytes_of_symbol, symbol_cells, symbol_weights}
use Rattle.law_link.specs.Laws.{NoiseLaw, NoiseIsClean}
use Rattle.law_link.specs.Flat.{IsRestored}
use Rattle.law_link.specs.FlatFiles.{HaveCome}
use Rattle.law_link.proofs.OneCell.{strong_is}
use Rattle.law_tracking.specs.Tracked.{received, tracked_file, HaveBegun, BeginningsAreTracked, FilesAreTracked, IsWellTolerated, TrackedAreWithin, TrackedAreReturned, TrackedAreClean}
use Rattle.law_tracking.proofs.Cell.{IsReceived, IsCorrected}
use Rattle.law_tracking.proofs.Sent.{tx_sent}
use Rattle.law_tracking.proofs.Symbols.{no_symbol, HaveArrived, all_corrected}

-- the known facts on the bytes of cells
pub record AreRead : Type 0 where
  pub long : FiveBytesACell
  pub cells : CellsAreReadBack
  pub weights : WeightsAreReadBack

-- ---- the received symbols
abbrev symbol : Settings → List ℕ → ℕ → Symbol
symbol s bytes m = record { cells = symbol_cells s bytes m; weights = symbol_weights s bytes m }

received_long : (s : Settings) (bytes : List ℕ) → length (received s bytes) ≡ symbols s bytes
unfolding received numbers
received_long s bytes = length-map-range_with_len (symbol s bytes) 0 (symbols s bytes)

received_is : (s : Settings) (bytes : List ℕ) (m : ℕ) → m < symbols s bytes → get_or (received s bytes) m no_symbol ≡ symbol s bytes m
unfolding received numbers
received_is s bytes m h = get_or-map-range_with_len (symbol s bytes) 0 (symbols s bytes) m m no_symbol h (omega arith)

-- a weight that counts for a receiver counts for the correction
same_within : (ws : List ℕ) (k c d : ℕ) → k < length ws → get_or ws k c ≡ get_or ws k d
same_within [] k c d l = absurd (omega (arith, l))
same_within (w ∷ ws) zero c d l = refl
same_within (w ∷ ws) (suc k) c d l = same_within ws k c d (omega (arith, l))

weights_long : (s : Settings) (bytes : List ℕ) (m : ℕ) → length (symbol_weights s bytes m) ≡ carriers s.mode
unfolding symbol_weights weights_from numbers
weights_long s bytes m = length-map-range_with_len (weight_from (bytes_of_symbol s bytes m)) 0 (carriers s.mode)

counts : (s : Settings) (bytes : List ℕ) (m k : ℕ) → k < carriers s.mode → 1 ≤ weight_of (symbol_weights s bytes m) k → 1 ≤ slice_index (symbol_weights s bytes m) k
counts s bytes m k few h =
    let long = weights_long s bytes m in
    let same : get_or (symbol_weights s bytes m) k full_weight ≡ slice_index (symbol_weights s bytes m) k = same_within (symbol_weights s bytes m) k full_weight 0 (omega (arith, long, few)) in
    omega (arith, same, h)

arrived : ModeStays → (s : Settings) (inputs : Inputs) (a b : ℤ) (bytes : List ℕ) → HaveBegun s inputs a b bytes → HaveArrived s a b (tx_cell s inputs) (received s bytes)
arrived stays s inputs a b bytes h =
    let long = received_long s bytes in
    record {
      re = λ m k. ((tx_sent stays s inputs m).small k).re;
      im = λ m k. ((tx_sent stays s inputs m).small k).im;
      pilots = λ m k p. (tx_sent stays s inputs m).pilots k p;
      through = λ m k l few.
          let here : m < symbols s bytes = omega (arith, l, long) in
          let t = h.through m k here few in
          let come : IsReceived a b (tx_cell s inputs m k).re (tx_cell s inputs m k).im (cell_of (symbol_cells s bytes m) k).re (cell_of (symbol_cells s bytes m) k).im = record { re = record { below = t.re }; im = record { below = t.im } } in
          subst (λ (x : Symbol). IsReceived a b (tx_cell s inputs m k).re (tx_cell s inputs m k).im (cell_of x.cells k).re (cell_of x.cells k).im) (sym (received_is s bytes m here)) come;
      counts = λ m k l few.
          let here : m < symbols s bytes = omega (arith, l, long) in
          subst (λ (x : Symbol). 1 ≤ slice_index x.weights k) (sym (received_is s bytes m here)) (counts s bytes m k few (h.counts m k here few));
    }

-- ---- the bytes of corrected symbols
abbrev at : Settings → List ℕ → ℕ → ℕ → Tracked
at s bytes m k = tracked s (received s bytes) m k

abbrev written : Settings → List ℕ → ℕ → List ℕ
written s bytes m = bytes_of_cells (λ k. (at s bytes m k).cell) (λ k. (at s bytes m k).weight) (carriers s.mode)

bytes_are : (s : Settings) (bytes : List ℕ) (m : ℕ) → tracked_bytes s (received s bytes) m ≡ written s bytes m
unfolding tracked_bytes
bytes_are s bytes m = refl

symbol_long : AreRead → (s : Settings) (bytes : List ℕ) (m : ℕ) → length (tracked_bytes s (received s bytes) m) ≡ symbol_length s
symbol_long known s bytes m = ap length (bytes_are s bytes m) ∙ known.long (λ k. (at s bytes m k).cell) (λ k. (at s bytes m k).weight) (carriers s.mode)

whole : (mode : Mode) (n : ℕ) → 5 * carriers mode * n / (5 * carriers mode) ≡ n
whole M2k n = omega arith
whole M8k n = omega arith

as_many : AreRead → (s : Settings) (bytes : List ℕ) → symbols s (tracked_file s bytes) ≡ symbols s bytes
unfolding tracked_file
as_many known s bytes =
    ap (λ (z : ℕ). z / symbol_length s) (parts_long (tracked_bytes s (received s bytes)) (symbol_length s) (symbol_long known s bytes) (symbols s bytes))
    ∙ whole s.mode (symbols s bytes)

symbol_is : AreRead → (s : Settings) (bytes : List ℕ) (m : ℕ) → m < symbols s bytes → bytes_of_symbol s (tracked_file s bytes) m ≡ written s bytes m
unfolding tracked_file bytes_of_symbol
symbol_is known s bytes m l = piece_is (tracked_bytes s (received s bytes)) (symbol_length s) (symbol_long known s bytes) (symbols s bytes) m l ∙ bytes_are s bytes m

cell_is : AreRead → (s : Settings) (bytes : List ℕ) (m k : ℕ) → m < symbols s bytes → k < carriers s.mode → IsWritable (at s bytes m k).cell (at s bytes m k).weight → cell_of (symbol_cells s (tracked_file s bytes) m) k ≡ (at s bytes m k).cell
unfolding symbol_cells
cell_is known s bytes m k l few fits =
    ap (λ (z : List ℕ). cell_of (cells_from z (carriers s.mode)) k) (symbol_is known s bytes m l)
    ∙ known.cells (λ k. (at s bytes m k).cell) (λ k. (at s bytes m k).weight) (carriers s.mode) k (record { re = pos 0; im = pos 0 }) few fits

few_enough : (w : ℕ) → w ≤ 15 → weight_of_byte w ≡ w
few_enough w h = omega (arith, h)

weight_is : AreRead → (s : Settings) (bytes : List ℕ) (m k : ℕ) → m < symbols s bytes → k < carriers s.mode → IsWritable (at s bytes m k).cell (at s bytes m k).weight → weight_of (symbol_weights s (tracked_file s bytes) m) k ≡ (at s bytes m k).weight
unfolding symbol_weights
weight_is known s bytes m k l few fits =
    ap (λ (z : List ℕ). weight_of (weights_from z (carriers s.mode)) k) (symbol_is known s bytes m l)
    ∙ ap weight_of_byte (known.weights (λ k. (at s bytes m k).cell) (λ k. (at s bytes m k).weight) (carriers s.mode) k full_weight few fits)
    ∙ few_enough (at s bytes m k).weight fits.weight_most

part_fits : (x y : ℤ) → nat_abs (x -ℤ y) ≤ 256 → Below y 21845 → FitsSigned w16 x
part_fits x y near small = omega (arith, ints, near, small.below)

writable : (sent : Cell) (x : Tracked) → Below sent.re 21845 → Below sent.im 21845 → IsCorrected sent x → IsWritable x.cell x.weight
writable sent x re im h = record { re = part_fits x.cell.re sent.re h.re re; im = part_fits x.cell.im sent.im h.im im; weight_most = h.most }

-- ---- the laws
same_cell : {c d : Cell} {v w : ℕ} → c ≡ d → v ≡ w → ◌≡◌ {A = Equalised} (record { cell = c; weight = v }) (record { cell = d; weight = w })
same_cell p q = ap₂ (λ (c : Cell) (w : ℕ). record { cell = c; weight = w }) p q

pub beginnings : AreRead → ModeStays → BeginningsAreTracked
beginnings known stays s inputs a b bytes flat h = record {
  all = as_many known s bytes;
  each = λ m k l few.
      let long = received_long s bytes in
      let all = arrived stays s inputs a b bytes h in
      let sent = tx_cell s inputs m k in
      let c : IsCorrected sent (at s bytes m k) = all_corrected s a b (tx_cell s inputs) (received s bytes) (strong_is a b flat.least) all (omega (arith, h.some, long)) m k (omega (arith, l, long)) few in
      let fits = writable sent (at s bytes m k) (all.re m k) (all.im m k) c in
      let back : IsRestored 256 sent (record { cell = (at s bytes m k).cell; weight = (at s bytes m k).weight }) = record { re = c.re; im = c.im; weight = c.weight } in
      subst (IsRestored 256 sent) (sym (same_cell (cell_is known s bytes m k l few fits) (weight_is known s bytes m k l few fits))) back;
}

begun : (s : Settings) (inputs : Inputs) (a b : ℤ) (bytes : List ℕ) → 4 ≤ symbols s bytes → HaveCome s inputs a b bytes → HaveBegun s inputs a b bytes
begun s inputs a b bytes some h = record {
  some = some;
  most = omega (arith, h.all);
  through = λ m k l few. h.through m k (omega (arith, l, h.all)) few;
  counts = λ m k l few. h.counts m k (omega (arith, l, h.all)) few;
}

pub files : BeginningsAreTracked → FilesAreTracked
files law s inputs a b bytes flat some h =
    let t = law s inputs a b bytes flat (begun s inputs a b bytes some h) in
    record { all = t.all ∙ h.all; each = λ m k l few. t.each m k (omega (arith, l, h.all)) few }

pub within : IsWellTolerated → FilesAreTracked → TrackedAreWithin
within wide law s inputs a b bytes flat some come =
    let back = law s inputs a b bytes flat some come in
    record {
      all = back.all;
      near = λ m k l few free. let near = back.each m k l few in let by = settings_at s m in let w = wide by.shape by.hierarchy in record { re = omega (arith, near.re, w); im = omega (arith, near.im, w) };
      weight = λ m k l few free. (back.each m k l few).weight;
    }

-- a transmission with a number of super-frames has more than four symbols
frames : (s : Settings) (inputs : Inputs) (n : ℕ) → TheNumberIsFound → super_frames s (counts_of inputs) ≡ Some n → 4 ≤ symbols_of s inputs
unfolding symbols_of
frames s inputs n found e =
    let are : AreSuperFrames s (counts_of inputs) n = subst (IsLength s (counts_of inputs)) e (found s (counts_of inputs)) in
    let many : 4 ≤ 272 * n = omega (arith, are.some) in
    subst (λ (o : Option ℕ). 4 ≤ unwrap_or (option_map (λ n. 272 * n) o) (s.max_symbols + 1)) (sym e) many

enough : (s : Settings) (inputs : Inputs) (a b : ℤ) (bytes : List ℕ) (n : ℕ) → TheNumberIsFound → HaveCome s inputs a b bytes → super_frames s (counts_of inputs) ≡ Some n → 4 ≤ symbols s bytes
enough s inputs a b bytes n found come e = let many = frames s inputs n found e in omega (arith, many, come.all)

pub returned : TheNumberIsFound → NoiseLaw → TrackedAreWithin → TrackedAreReturned
returned found noise law s inputs a b bytes r from_start have flat come final n σ e = noise s inputs (tracked_file s bytes) r from_start have (law s inputs a b bytes flat (enough s inputs a b bytes n found come e) come) final n σ e

pub clean : TheNumberIsFound → NoiseIsClean → TrackedAreWithin → TrackedAreClean
clean found noise law s inputs a b bytes r from_start have flat come final n σ e = noise s inputs (tracked_file s bytes) r from_start have (law s inputs a b bytes flat (enough s inputs a b bytes n found come e) come) final n σ e
