-- The bytes of a corrected symbol.
use Rattle.std.proofs.Common.{◌≡◌, ℕ, ◌<◌, List, get_or, ap, ◌∙◌, arith}
use Rattle.std.specs.Prelude.{slice_index, flat_map}
use Rattle.spec_words.specs.Words.{numbers}
use Rattle.spec_words.proofs.Counting.{length-numbers, get_or-numbers}
use Rattle.mode_set.specs.StreamTable.{carriers}
use Rattle.mode_set.specs.declared.settings.Settings.{Settings}
use Rattle.qam_map.specs.Cells.{cell_of}
use Rattle.qam_map.specs.declared.cell.Cell.{Cell}
use Rattle.tracking.specs.Correction.{corrected}
use Rattle.tracking.specs.Tracking.{Symbol, comb, gain, reference_power, tracked, bytes_of, tracked_bytes}
use Rattle.tracking.proofs.Same.{bytes_same}
use Rattle.track_ring.specs.Ring.{symbol_of}
use Rattle.track_arithmetic.specs.declared.complex.Complex.{Complex}
use Rattle.track_cells.specs.Gains.{gain_of, corrected_bytes}

module _ (s : Settings) (symbols : List Symbol) (m full : ℕ) (gains : List Complex) (cells : List Cell) (weights : List ℕ) where
  one : (k : ℕ) → full ≡ reference_power s (comb s symbols) m → gain_of gains k ≡ gain s (comb s symbols) m k → cell_of cells k ≡ cell_of (symbol_of symbols m).cells k → slice_index weights k ≡ slice_index (symbol_of symbols m).weights k
      → corrected full (gain_of gains k) (cell_of cells k) (slice_index weights k) ≡ tracked s symbols m k
  unfolding tracked
  one k ef eg ec ew =
      ap (λ (z : ℕ). corrected z (gain_of gains k) (cell_of cells k) (slice_index weights k)) ef
      ∙ ap (λ (z : Complex). corrected (reference_power s (comb s symbols) m) z (cell_of cells k) (slice_index weights k)) eg
      ∙ ap (λ (z : Cell). corrected (reference_power s (comb s symbols) m) (gain s (comb s symbols) m k) z (slice_index weights k)) ec
      ∙ ap (corrected (reference_power s (comb s symbols) m) (gain s (comb s symbols) m k) (cell_of (symbol_of symbols m).cells k)) ew

  pub all_bytes : (n : ℕ) → n ≡ carriers s.mode → full ≡ reference_power s (comb s symbols) m → ((k : ℕ) → k < n → gain_of gains k ≡ gain s (comb s symbols) m k)
      → ((k : ℕ) → k < n → cell_of cells k ≡ cell_of (symbol_of symbols m).cells k) → ((k : ℕ) → k < n → slice_index weights k ≡ slice_index (symbol_of symbols m).weights k)
      → corrected_bytes full gains cells weights n ≡ tracked_bytes s symbols m
  unfolding corrected_bytes tracked_bytes
  all_bytes n en ef eg ec ew =
      let f = λ (k : ℕ). bytes_of (corrected full (gain_of gains k) (cell_of cells k) (slice_index weights k)) in
      let g = λ (k : ℕ). bytes_of (tracked s symbols m k) in
      bytes_same (numbers n) f g (λ i lt.
      let less : i < n = omega (arith, lt, length-numbers n) in
      let at = get_or-numbers n i less in
      let k = get_or (numbers n) i 0 in
      let few : k < n = omega (arith, at, less) in
      ap bytes_of (one k ef (eg k few) (ec k few) (ew k few)))
      ∙ ap (λ (z : ℕ). flat_map g (numbers z)) en
