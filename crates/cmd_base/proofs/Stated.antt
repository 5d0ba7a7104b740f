-- The settings that a file states are unique.
use Rattle.std.proofs.Common.{◌≡◌, ℕ, List, Some}
use Rattle.mode_set.specs.Document.{IsStatedBy}
use Rattle.mode_set.specs.declared.settings.Settings.{Settings}
use Rattle.cmd_base.specs.StatedSettings.{settings_of}

pub stated : (s : Settings) (bytes : List ℕ) → IsStatedBy s bytes → settings_of bytes ≡ Some s
stated s bytes is = is
