-- Reading the settings of a command, before anything else is requested.
use Rattle.std.specs.Prelude.{◌≡◌, ◌⊎◌, ◌≤◌, ◌+◌, ℕ, true, List, [], length, drop, Result, Ok, Err, Some, None, ⊤}
use Rattle.station_core.specs.Meaning.{Meaning}
use Rattle.station_core.specs.Causes.{Rose}
use Rattle.mode_set.specs.declared.settings.Settings.{Settings as TheSettings}
use Rattle.mode_set.specs.Document.{IsStatedBy}
use Rattle.cmd_base.specs.declared.refusal.Refusal.{Refusal}
use Rattle.cmd_base.specs.declared.refusal.Refusal.TheVariants.{Settings, ReadFault, Memory}
use Rattle.cmd_base.specs.SettingsFile.{most_settings, settings_refusal}

-- Only the port of the settings and the count of read faults have changed. This name was requested there, or none. The
-- file was read to its end, or far enough to show that it is too long.
pub record AsksSettings (name : List ℕ) (old new : Meaning) : Type 0 where
  pub others : new ≡ record old { settings = new.settings; read_faults = new.read_faults }
  pub later : old.read_faults ≤ new.read_faults
  pub asked : new.settings ≡ old.settings ⊎ (new.settings.asked ≡ Some name)
  pub read : old.tells ≡ true → new.settings.attached ≡ true → (k : ℕ) × (k ≤ most_settings + 1)
      × (new.settings.left ≡ drop k (old.file name))

-- settings are rejected only for a reason of their own or lack of memory
abbrev pub IsCheck : Result TheSettings Refusal → Type 0
IsCheck (Ok settings) = ⊤
IsCheck (Err Memory) = ⊤
IsCheck (Err (Settings reason)) = ⊤
IsCheck (Err refusal) = ⊥

-- these bytes are the settings file, which is accepted or rejected
abbrev pub Checks : List ℕ → Result TheSettings Refusal → Type 0
Checks bytes (Ok settings) = (length bytes ≤ most_settings) × (settings_refusal bytes ≡ None)
    × IsStatedBy settings bytes
Checks bytes (Err Memory) = ⊤
Checks bytes (Err (Settings reason)) = settings_refusal bytes ≡ Some (Settings reason)
Checks bytes (Err refusal) = ⊥

-- the result, and what it means for the file; accepted settings are read to their end
abbrev pub ReadsSettings : List ℕ → Meaning → Meaning → Result TheSettings Refusal → Type 0
ReadsSettings name old new (Ok settings) =
    (new.read_faults ≡ old.read_faults) × (new.settings.asked ≡ Some name) × (new.settings.attached ≡ true)
    × (old.tells ≡ true → (new.settings.left ≡ []) × Checks (old.file name) (Ok settings))
ReadsSettings name old new (Err ReadFault) = Rose old.read_faults new.read_faults
ReadsSettings name old new (Err Memory) = new.read_faults ≡ old.read_faults
ReadsSettings name old new (Err (Settings reason)) =
    (new.read_faults ≡ old.read_faults) × (old.tells ≡ true → Checks (old.file name) (Err (Settings reason)))
ReadsSettings name old new (Err refusal) = ⊥
