-- The definitions computed: the first cells of the super-frame of null packets, and old files without a whole symbol.
use Rattle.std.proofs.Common.{◌≡◌, [], ◌∷◌, refl}
use Rattle.spec_words.specs.Words.{numbers}
use Rattle.mode_set.specs.declared.modes.Mode.TheVariants.{M2k, M8k}
use Rattle.law_link.specs.OldCells.{upgraded_cells}
use Rattle.cmd_convert.specs.Conversion.{new_file, new_symbols}
use Rattle.cmd_convert.specs.Upgrading.{upgrading}

pub first_cells : upgraded_cells 2 (0xAA ∷ 0xAB ∷ 0x00 ∷ 0x00 ∷ 0xD2 ∷ 0xBF ∷ 0x2D ∷ 0x41 ∷ []) ≡ 0xAA ∷ 0xAB ∷ 0x00 ∷ 0x00 ∷ 0x0F ∷ 0xD2 ∷ 0xBF ∷ 0x2D ∷ 0x41 ∷ 0x0F ∷ []
unfolding upgraded_cells numbers
first_cells = refl

pub header_alone : new_file (upgrading M2k) [] ≡ 0x44 ∷ 0x56 ∷ 0x54 ∷ 0x43 ∷ 0x02 ∷ 0x00 ∷ 0x00 ∷ 0x00 ∷ []
unfolding new_symbols numbers
header_alone = refl

pub part_left_out : new_file (upgrading M8k) (1 ∷ 2 ∷ 3 ∷ 4 ∷ 5 ∷ []) ≡ 0x44 ∷ 0x56 ∷ 0x54 ∷ 0x43 ∷ 0x02 ∷ 0x01 ∷ 0x00 ∷ 0x00 ∷ []
unfolding new_symbols numbers
part_left_out = refl
