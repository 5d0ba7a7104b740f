-- Arguments with one stream or two, and the settings that fit them.
use Rattle.std.specs.Prelude.{ℕ, Bool, if◌then◌else◌, List, Option, Some, None, is_some}
use Rattle.std.specs.Bool.{beq}
use Rattle.std.specs.Option.{option_or}
use Rattle.mode_set.specs.Entries.{has_lp}
use Rattle.mode_set.specs.declared.settings.Settings.{Settings as TheSettings}
use Rattle.cmd_base.specs.declared.refusal.Refusal.{Refusal}
use Rattle.cmd_base.specs.declared.refusal.Refusal.TheVariants.{Settings}
use Rattle.cmd_base.specs.declared.refusal.SettingsRefusal.TheVariants.{Form}
use Rattle.cmd_base.specs.SettingsFile.{settings_refusal}
use Rattle.cmd_base.specs.StatedSettings.{settings_of}

-- an LP file is given exactly if LP exists in the settings
abbrev pub fits_form : TheSettings → Option (List ℕ) → Bool
fits_form s lp = beq (is_some lp) (has_lp s)

-- settings that do not fit the arguments are refused
abbrev pub form_refusal : Option TheSettings → Option (List ℕ) → Option Refusal
form_refusal None lp = None
form_refusal (Some s) lp = if fits_form s lp then None else Some (Settings Form)

-- the refusal of settings with these arguments, if any: a reason of their own comes before the form
abbrev pub fitting_refusal : List ℕ → Option (List ℕ) → Option Refusal
fitting_refusal bytes lp = option_or (settings_refusal bytes) (form_refusal (settings_of bytes) lp)
