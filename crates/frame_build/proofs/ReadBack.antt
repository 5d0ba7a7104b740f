-- Cells and weights are read back from their bytes.
use Rattle.std.proofs.Common.{◌≡◌, ℕ, ◌+◌, ◌*◌, ◌^◌, ◌<◌, ◌≤◌, List, ◌∷◌, ◌++◌, length, drop, refl, sym, ap, ap₂, ◌∙◌, arith, get_or}
use Rattle.std.specs.Prelude.{ℤ}
use Rattle.std.specs.Int.{cast_signed, cast_unsigned, w16}
use Rattle.std.specs.Int.RustNames.{FitsSigned}
use Rattle.std.proofs.lemmas.Int.{to_z-of_z}
use Rattle.std.proofs.lemmas.List.{drop-drop, get_or-drop}
use Rattle.std.proofs.lemmas.List.FromFn.{get_or-map-range_with_len}
use Rattle.std.proofs.Math.Facts.{Fits-of_z}
use Rattle.byteorder.specs.Endian.{big_bytes, big_number}
use Rattle.byteorder.specs.Numbers.{big_number-reads_back}
use Rattle.spec_words.specs.Words.{numbers}
use Rattle.qam_map.specs.declared.cell.Cell.{Cell}
use Rattle.soft_metric.specs.Weights.{weight_of_byte}
use Rattle.frame_build.specs.Symbol.{cell_bytes, cell_from, weight_from, cells_from, weights_from}
use Rattle.frame_build.specs.ReadBack.{IsWritable, bytes_of_cells, FiveBytesACell, CellsAreReadBack, WeightsAreReadBack}
use Rattle.frame_build.proofs.Parts.{BeginsWith, parts_long, part_begins}

written_fits : (z : ℤ) → FitsSigned w16 z → cast_unsigned w16 z < 256 ^ 2
written_fits z h = let f = Fits-of_z {w = w16} {z = z} h in omega (arith, f.fits)

read_from : (z : ℤ) (xs rest : List ℕ) → FitsSigned w16 z → xs ≡ big_bytes 2 (cast_unsigned w16 z) ++ rest → cast_signed w16 (big_number 2 xs) ≡ z
read_from z xs rest h e = ap (λ (y : List ℕ). cast_signed w16 (big_number 2 y)) e ∙ ap (cast_signed w16) (big_number-reads_back 2 (cast_unsigned w16 z) rest (written_fits z h)) ∙ to_z-of_z w16 z h

-- a cell whose bytes stand from 5 k on
cell_is : (c : Cell) (w : ℕ) (xs : List ℕ) (k : ℕ) → IsWritable c w → BeginsWith (drop (5 * k) xs) (cell_bytes c w) → cell_from xs k ≡ c
unfolding cell_from cell_bytes
cell_is c w xs k fits b = made (read_from c.re (drop (5 * k) xs) (big_bytes 2 (cast_unsigned w16 c.im) ++ (w ∷ b.rest)) fits.re first) (read_from c.im (drop (5 * k + 2) xs) (w ∷ b.rest) fits.im second)
  where
    first : drop (5 * k) xs ≡ big_bytes 2 (cast_unsigned w16 c.re) ++ (big_bytes 2 (cast_unsigned w16 c.im) ++ (w ∷ b.rest))
    first = b.is

    second : drop (5 * k + 2) xs ≡ big_bytes 2 (cast_unsigned w16 c.im) ++ (w ∷ b.rest)
    second = sym (drop-drop 2 (5 * k) xs) ∙ ap (drop 2) first

    made : {re im : ℤ} → re ≡ c.re → im ≡ c.im → ◌≡◌ {A = Cell} (record { re = re; im = im }) c
    made p q = ap₂ (λ (x y : ℤ). record { re = x; im = y }) p q

kept : (w : ℕ) → w ≤ 15 → weight_of_byte w ≡ w
kept w h = omega (arith, h)

-- its weight stands behind it
weight_is : (c : Cell) (w : ℕ) (xs : List ℕ) (k : ℕ) → w ≤ 15 → BeginsWith (drop (5 * k) xs) (cell_bytes c w) → weight_from xs k ≡ w
unfolding weight_from cell_bytes
weight_is c w xs k h b = ap weight_of_byte (sym (get_or-drop (5 * k) xs 4 0) ∙ ap (λ (z : List ℕ). get_or z 4 0) b.is) ∙ kept w h

five : (c : Cell) (w : ℕ) → length (cell_bytes c w) ≡ 5
unfolding cell_bytes
five c w = refl

in_range : (k : ℕ) → 0 + k ≡ k
in_range k = omega arith

pub five_bytes_a_cell : FiveBytesACell
five_bytes_a_cell cells weights n = parts_long (λ k. cell_bytes (cells k) (weights k)) 5 (λ k. five (cells k) (weights k)) n

begins : (cells : ℕ → Cell) (weights : ℕ → ℕ) (n k : ℕ) → k < n → BeginsWith (drop (5 * k) (bytes_of_cells cells weights n)) (cell_bytes (cells k) (weights k))
begins cells weights n k l = part_begins (λ k. cell_bytes (cells k) (weights k)) 5 (λ k. five (cells k) (weights k)) n k l

pub cells_are_read_back : CellsAreReadBack
unfolding cells_from numbers
cells_are_read_back cells weights n k other l fits =
    get_or-map-range_with_len (cell_from (bytes_of_cells cells weights n)) 0 n k k other l (in_range k)
    ∙ cell_is (cells k) (weights k) (bytes_of_cells cells weights n) k fits (begins cells weights n k l)

pub weights_are_read_back : WeightsAreReadBack
unfolding weights_from numbers
weights_are_read_back cells weights n k other l fits =
    get_or-map-range_with_len (weight_from (bytes_of_cells cells weights n)) 0 n k k other l (in_range k)
    ∙ weight_is (cells k) (weights k) (bytes_of_cells cells weights n) k fits.weight_most (begins cells weights n k l)
