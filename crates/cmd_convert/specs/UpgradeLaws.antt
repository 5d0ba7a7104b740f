-- The laws of `upgrade`.
use Rattle.std.specs.Prelude.{◌≡◌, List, ℕ, Option, Some}
use Rattle.mode_set.specs.declared.modes.Stream.{Stream}
use Rattle.mode_set.specs.declared.settings.Settings.{Settings}
use Rattle.law_link.specs.UpgradedCells.{ArePlain}
use Rattle.cmd_convert.specs.Conversion.{new_file}
use Rattle.cmd_convert.specs.Upgrading.{upgrading, upgraded_file}

-- from the stated settings, if any, and the old file
pub record UpgradeLaws (stated : Option Settings) (bytes : List ℕ) : Type 0 where
  -- The new file is the header, then the cells of all whole symbols in order: the four bytes of each and weight 15.
  pub whole : (s : Settings) → stated ≡ Some s → new_file (upgrading s.mode) bytes ≡ upgraded_file s.mode bytes
  -- For a receiver these cells have the costs of the old cells without weights.
  pub plain : (s : Settings) → stated ≡ Some s → (σ : Stream) → ArePlain s bytes σ
