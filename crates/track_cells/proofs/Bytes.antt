-- The bytes of the first carriers.
use Rattle.std.proofs.Common.{◌≡◌, ℕ, ◌+◌, List, [], ◌∷◌, ◌++◌, refl, sym, ap, ◌∙◌, append_assoc}
use Rattle.std.specs.Prelude.{flat_map, slice_index}
use Rattle.std.proofs.lemmas.List.{append-nil}
use Rattle.std.proofs.lemmas.List.Concat.{flat_map-append}
use Rattle.spec_words.specs.Words.{numbers}
use Rattle.spec_words.proofs.Counting.{numbers_end}
use Rattle.qam_map.specs.Cells.{cell_of}
use Rattle.qam_map.specs.declared.cell.Cell.{Cell}
use Rattle.tracking.specs.Correction.{corrected}
use Rattle.tracking.specs.Tracking.{bytes_of}
use Rattle.tracking.specs.declared.tracked.Tracked.{Tracked}
use Rattle.track_arithmetic.specs.declared.complex.Complex.{Complex}
use Rattle.track_cells.specs.Gains.{gain_of, corrected_bytes}

module _ (full : ℕ) (gains : List Complex) (cells : List Cell) (weights : List ℕ) where
  no_bytes : corrected_bytes full gains cells weights 0 ≡ []
  unfolding corrected_bytes numbers
  no_bytes = refl

  one_more : (n : ℕ) → corrected_bytes full gains cells weights (n + 1) ≡ corrected_bytes full gains cells weights n ++ bytes_of (corrected full (gain_of gains n) (cell_of cells n) (slice_index weights n))
  unfolding corrected_bytes
  one_more n =
      let f = λ (k : ℕ). bytes_of (corrected full (gain_of gains k) (cell_of cells k) (slice_index weights k)) in
      ap (flat_map f) (numbers_end n) ∙ flat_map-append f (numbers n) (n ∷ []) ∙ ap (λ (z : List ℕ). flat_map f (numbers n) ++ z) (append-nil (f n))

  pub none_appended : (start : List ℕ) → start ≡ start ++ corrected_bytes full gains cells weights 0
  none_appended start = sym (ap (λ (z : List ℕ). start ++ z) no_bytes ∙ append-nil start)

  pub appended : (n : ℕ) (start old new more : List ℕ) → old ≡ start ++ corrected_bytes full gains cells weights n → new ≡ old ++ more → more ≡ bytes_of (corrected full (gain_of gains n) (cell_of cells n) (slice_index weights n)) → new ≡ start ++ corrected_bytes full gains cells weights (n + 1)
  appended n start old new more eo en em =
      en ∙ ap (λ (z : List ℕ). z ++ more) eo ∙ append_assoc start (corrected_bytes full gains cells weights n) more ∙ ap (λ (z : List ℕ). start ++ (corrected_bytes full gains cells weights n ++ z)) em ∙ ap (λ (z : List ℕ). start ++ z) (sym (one_more n))
