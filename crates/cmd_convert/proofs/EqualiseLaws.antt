-- The flat gain law over files is that of the command.
use Rattle.std.proofs.Common.{◌≡◌, List, ℕ, refl, sym, subst, Option}
use Rattle.mode_set.specs.declared.settings.Settings.{Settings}
use Rattle.law_link.specs.Returned.{IsWithin}
use Rattle.reception.specs.Cells.{bytes_of_symbol}
use Rattle.reception.specs.Streams.{Final}
use Rattle.law_link.specs.FlatFiles.{equalised_symbols, AreRestored, FilesAreRestored, FilesAreWithin, FilesAreReturned}
use Rattle.cmd_convert.specs.Conversion.{new_cells, new_symbols}
use Rattle.cmd_convert.specs.Equalising.{equalisation}
use Rattle.cmd_convert.specs.EqualiseLaws.{EqualiseLaws}

-- the laws over files
pub record Laws : Type 0 where
  pub restored : FilesAreRestored
  pub within : FilesAreWithin
  pub returned : FilesAreReturned

-- the cells of OUT are the symbols that the laws are about
same : (s : Settings) (bytes : List ℕ) → equalised_symbols s bytes ≡ new_cells (equalisation s.mode) bytes
unfolding equalised_symbols bytes_of_symbol new_symbols
same s bytes = refl

pub own_laws : Laws → (stated : Option Settings) (file : List ℕ) → EqualiseLaws stated file
own_laws laws stated file = record {
  flat_gain = λ s is. record {
    restored = λ inputs a b flat come. subst (AreRestored 64 s inputs) (same s _) (laws.restored s inputs a b _ flat come);
    within = λ inputs a b flat come. subst (IsWithin s inputs) (same s _) (laws.within s inputs a b _ flat come);
    returned = λ inputs a b from_start have flat come r final. laws.returned s inputs a b _ r from_start have flat come (subst (λ (z : List ℕ). Final s z r) (sym (same s _)) final);
  };
}
