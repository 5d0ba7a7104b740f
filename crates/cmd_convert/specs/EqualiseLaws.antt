-- The law of `equalise`: cells received through a flat channel are restored.
use Rattle.std.specs.Prelude.{◌≡◌, List, ℕ, ℤ, Option, Some}
use Rattle.mode_set.specs.declared.modes.Start.TheVariants.{Zero}
use Rattle.mode_set.specs.declared.settings.Settings.{Settings}
use Rattle.transmission.specs.Transmission.{Inputs}
use Rattle.reception.specs.Streams.{Reception, Final}
use Rattle.law_link.specs.Returned.{HavePackets, IsReturned, IsWithin}
use Rattle.law_link.specs.Flat.{IsFlat}
use Rattle.law_link.specs.FlatFiles.{HaveCome, AreRestored}
use Rattle.cmd_convert.specs.Conversion.{new_cells, old_cells}
use Rattle.cmd_convert.specs.Equalising.{equalisation}

-- If the cells of IN are a transmission, received through one gain of half to full nominal amplitude:
pub record GainIsRemoved (s : Settings) (bytes : List ℕ) : Type 0 where
  -- Each cell of OUT is within 64 of the cell sent, on both axes, and has a weight of at least 1.
  pub restored : (inputs : Inputs) (a b : ℤ) → IsFlat a b → HaveCome s inputs a b bytes
      → AreRestored 64 s inputs (new_cells (equalisation s.mode) bytes)
  -- That is within the tolerance of the settings' constellation, so `receive` gives for it ..
  pub within : (inputs : Inputs) (a b : ℤ) → IsFlat a b → HaveCome s inputs a b bytes
      → IsWithin s inputs (new_cells (equalisation s.mode) bytes)
  -- .. from start zero: the packets of the transmission, then null packets.
  pub returned : (inputs : Inputs) (a b : ℤ) → s.start ≡ Zero → HavePackets s inputs → IsFlat a b
      → HaveCome s inputs a b bytes
      → (r : Reception) → Final s (new_cells (equalisation s.mode) bytes) r → IsReturned s inputs r.packets

-- the law, from the stated settings, if any, and the file IN
pub record EqualiseLaws (stated : Option Settings) (file : List ℕ) : Type 0 where
  pub flat_gain : (s : Settings) → stated ≡ Some s → GainIsRemoved s (old_cells (equalisation s.mode) file)
