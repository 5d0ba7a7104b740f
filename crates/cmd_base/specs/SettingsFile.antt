-- The result of reading a settings file, from its bytes alone.
use Rattle.std.specs.Prelude.{ℕ, List, length, nat_lt, if◌then◌else◌, Option, Some, option_map}
use Rattle.mode_set.specs.declared.error.SettingsError.{SettingsError}
use Rattle.mode_set.specs.declared.error.SettingsError.TheVariants as error
use Rattle.mode_set.specs.Document.{refusal}
use Rattle.cmd_base.specs.declared.refusal.SettingsRefusal.TheVariants.{TooLong, NotToml, Unknown, Missing, Value}
use Rattle.cmd_base.specs.declared.refusal.SettingsRefusal.TheVariants.{Clash}
use Rattle.cmd_base.specs.declared.refusal.Refusal.{Refusal}
use Rattle.cmd_base.specs.declared.refusal.Refusal.TheVariants.{Settings, Memory}

-- the greatest length of a settings file
abbrev pub most_settings : ℕ
most_settings = 65536

-- the refusal of a run because of its settings
abbrev pub refused_as : SettingsError → Refusal
refused_as error.NotToml = Settings NotToml
refused_as (error.Unknown place) = Settings (Unknown place)
refused_as (error.Missing key) = Settings (Missing key)
refused_as (error.Value key) = Settings (Value key)
refused_as (error.Clash key) = Settings (Clash key)
refused_as error.Memory = Memory

-- the refusal of a settings file, if any: its length is checked before its document
abbrev pub settings_refusal : List ℕ → Option Refusal
settings_refusal bytes = if nat_lt most_settings (length bytes) then Some (Settings TooLong) else option_map refused_as
    (refusal bytes)
