-- The TPS bit of a symbol, from its TPS cells and those of the symbol before (this project's own rule: the sign of
-- their correlation), and the bits of a frame.
use Rattle.std.specs.Prelude.{ℕ, ◌+◌, Bool, List, [], ◌∷◌, map, ℤ, pos, ◌+ℤ◌, ◌*ℤ◌, int_lt}
use Rattle.spec_words.specs.Words.{numbers}
use Rattle.mode_set.specs.declared.modes.Mode.{Mode}
use Rattle.pilots.specs.Carriers.{tps_carriers}
use Rattle.qam_map.specs.Cells.{cell_of}
use Rattle.qam_map.specs.declared.cell.Cell.{Cell}

-- the cells of a symbol's TPS carriers, rising
abbrev pub tps_cells_of : Mode → List Cell → List Cell
tps_cells_of mode symbol = map (cell_of symbol) (tps_carriers mode)

-- the sum of re re' + im im' over the TPS carriers of two symbols
abbrev pub agreement : List Cell → List Cell → ℤ
agreement [] now = pos 0
agreement (a ∷ before) [] = pos 0
agreement (a ∷ before) (b ∷ now) = a.re *ℤ b.re +ℤ a.im *ℤ b.im +ℤ agreement before now

-- 1 exactly if the sum is negative
unfoldable pub vote : List Cell → List Cell → Bool
vote before now = int_lt (agreement before now) (pos 0)

-- bit s_(k+1) of a frame that begins with symbol i: the vote of symbols i + k and i + k + 1
abbrev pub bit_from : (ℕ → List Cell) → ℕ → ℕ → Bool
bit_from cells i k = vote (cells (i + k)) (cells (i + k + 1))

-- s1 to s67 of that frame
unfoldable pub bits_from : (ℕ → List Cell) → ℕ → List Bool
bits_from cells i = map (bit_from cells i) (numbers 67)
