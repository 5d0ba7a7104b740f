-- The symbols of longer bytes.
use Rattle.std.proofs.Common.{◌≡◌, ℕ, ◌+◌, ◌-◌, ◌*◌, ◌/◌, ◌%◌, ◌<◌, ◌≤◌, List, ◌++◌, length, take, drop, map, refl, ap, ◌∙◌, arith, length-append, length-drop}
use Rattle.std.proofs.lemmas.List.{take-append-le, drop-append-le, take_all, drop_all}
use Rattle.mode_set.specs.StreamTable.{carriers}
use Rattle.mode_set.specs.declared.modes.Mode.{Mode}
use Rattle.mode_set.specs.declared.modes.Mode.TheVariants.{M2k, M8k}
use Rattle.mode_set.specs.declared.settings.Settings.{Settings}
use Rattle.pilots.specs.Carriers.{tps_carriers}
use Rattle.qam_map.specs.declared.cell.Cell.{Cell}
use Rattle.frame_build.specs.Symbol.{cells_from, weights_from}
use Rattle.qam_map.specs.Cells.{cell_of}
use Rattle.reception.specs.Cells.{symbol_length, symbols, bytes_of_symbol, symbol_cells, symbol_weights}
use Rattle.reception.specs.Frames.{tps_cells}
use Rattle.reception.specs.Laws.{SameSymbols, OneSymbolMore, TailIsUnfinished, MoreUnfinished, EndedSymbol, CellsStay, WeightsStay, TpsCellsStay, unfinished}

abbrev pub width : Mode → ℕ
width m = 5 * carriers m

-- ---- counting

same_count : (m : Mode) (n k : ℕ) → n % width m + k < width m → (n + k) / width m ≡ n / width m
same_count M2k n k h = omega (arith, h)
same_count M8k n k h = omega (arith, h)

next_count : (m : Mode) (n k : ℕ) → n % width m + k ≡ width m → (n + k) / width m ≡ n / width m + 1
next_count M2k n k h = omega (arith, h)
next_count M8k n k h = omega (arith, h)

next_rest : (m : Mode) (n k : ℕ) → n % width m + k ≡ width m → (n + k) % width m ≡ 0
next_rest M2k n k h = omega (arith, h)
next_rest M8k n k h = omega (arith, h)

pub more_count : (m : Mode) (n k : ℕ) → n / width m ≤ (n + k) / width m
more_count M2k n k = omega arith
more_count M8k n k = omega arith

pub no_count : (m : Mode) → 0 / width m ≡ 0
no_count M2k = refl
no_count M8k = refl

symbol_within : (m : Mode) (n k : ℕ) → k < n / width m → k * width m + width m ≤ n
symbol_within M2k n k h = omega (arith, h)
symbol_within M8k n k h = omega (arith, h)

starts_within : (m : Mode) (n : ℕ) → n / width m * width m ≤ n
starts_within M2k n = omega arith
starts_within M8k n = omega arith

rest_is : (m : Mode) (n : ℕ) → n - n / width m * width m ≡ n % width m
rest_is M2k n = omega arith
rest_is M8k n = omega arith

whole_is : (m : Mode) (n : ℕ) → n % width m ≡ 0 → n ≤ n / width m * width m
whole_is M2k n h = omega (arith, h)
whole_is M8k n h = omega (arith, h)

-- ---- the laws

pub same_symbols : SameSymbols
same_symbols s bytes more h = ap (λ n. n / symbol_length s) (length-append bytes more) ∙ same_count s.mode (length bytes) (length more) h

pub one_symbol_more : OneSymbolMore
one_symbol_more s bytes more h = (
  ap (λ n. n / symbol_length s) (length-append bytes more) ∙ next_count s.mode (length bytes) (length more) h,
  ap (λ n. n % symbol_length s) (length-append bytes more) ∙ next_rest s.mode (length bytes) (length more) h,
)

pub tail_is_unfinished : TailIsUnfinished
tail_is_unfinished s bytes = length-drop (symbols s bytes * symbol_length s) bytes ∙ rest_is s.mode (length bytes)

begun : (s : Settings) (bytes more : List ℕ) → drop (symbols s bytes * symbol_length s) (bytes ++ more) ≡ unfinished s bytes ++ more
begun s bytes more = drop-append-le (symbols s bytes * symbol_length s) bytes more (starts_within s.mode (length bytes))

pub more_unfinished : MoreUnfinished
more_unfinished s bytes more h = ap (λ n. drop (n * symbol_length s) (bytes ++ more)) (same_symbols s bytes more h) ∙ begun s bytes more

pub ended_symbol : EndedSymbol
unfolding bytes_of_symbol
ended_symbol s bytes more h =
    let long : length (unfinished s bytes ++ more) ≡ symbol_length s = length-append (unfinished s bytes) more ∙ ap (λ n. n + length more) (tail_is_unfinished s bytes) ∙ h in (
      ap (take (symbol_length s)) (begun s bytes more) ∙ take_all (symbol_length s) (unfinished s bytes ++ more) (omega (arith, long)),
      drop_all (symbols s (bytes ++ more) * symbol_length s) (bytes ++ more) (whole_is s.mode (length (bytes ++ more)) (one_symbol_more s bytes more h).1),
    )

bytes_stay : (s : Settings) (bytes more : List ℕ) (m : ℕ) → m < symbols s bytes → bytes_of_symbol s (bytes ++ more) m ≡ bytes_of_symbol s bytes m
unfolding bytes_of_symbol
bytes_stay s bytes more m h =
    let within = symbol_within s.mode (length bytes) m h in
    ap (take (symbol_length s)) (drop-append-le (m * symbol_length s) bytes more (omega (arith, within)))
    ∙ take-append-le (symbol_length s) (drop (m * symbol_length s) bytes) more (omega (arith, within, length-drop (m * symbol_length s) bytes))

pub cells_stay : CellsStay
unfolding symbol_cells
cells_stay s bytes more m h = ap (λ (z : List ℕ). cells_from z (carriers s.mode)) (bytes_stay s bytes more m h)

pub weights_stay : WeightsStay
unfolding symbol_weights
weights_stay s bytes more m h = ap (λ (z : List ℕ). weights_from z (carriers s.mode)) (bytes_stay s bytes more m h)

pub tps_cells_stay : TpsCellsStay
unfolding tps_cells
tps_cells_stay s bytes more m h = ap (λ (z : List Cell). map (cell_of z) (tps_carriers s.mode)) (cells_stay s bytes more m h)
