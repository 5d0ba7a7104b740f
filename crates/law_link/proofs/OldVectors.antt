-- Upgraded cells, computed.
use Rattle.std.proofs.Common.{◌≡◌, ℕ, List, [], ◌∷◌, refl}
use Rattle.std.specs.Prelude.{pos, neg_ℤ, replicate}
use Rattle.spec_words.specs.Words.{numbers}
use Rattle.mode_set.specs.declared.modes.Mode.TheVariants.{M2k, M8k}
use Rattle.law_link.specs.OldCells.{old_symbol_length, old_symbols, old_tail, old_cell_from, upgraded_cells}

-- the first two cells of a transmission of null packets
abbrev first : List ℕ
first = 0xAA ∷ 0xAB ∷ 0x00 ∷ 0x00 ∷ 0xD2 ∷ 0xBF ∷ 0x2D ∷ 0x41 ∷ []

weighted : upgraded_cells 2 first ≡ 0xAA ∷ 0xAB ∷ 0x00 ∷ 0x00 ∷ 0x0F ∷ 0xD2 ∷ 0xBF ∷ 0x2D ∷ 0x41 ∷ 0x0F ∷ []
unfolding upgraded_cells numbers
weighted = refl

pilot : old_cell_from first 0 ≡ record { re = neg_ℤ (pos 21845); im = pos 0 }
unfolding old_cell_from
pilot = refl

payload : old_cell_from first 1 ≡ record { re = neg_ℤ (pos 11585); im = pos 11585 }
unfolding old_cell_from
payload = refl

lengths : old_symbol_length M2k ∷ old_symbol_length M8k ∷ [] ≡ 6820 ∷ 27268 ∷ []
lengths = refl

-- one symbol and a byte
rest : old_symbols M2k (replicate 6821 0) ∷ old_tail M2k (replicate 6821 0) ∷ [] ≡ 1 ∷ 1 ∷ []
rest = refl
