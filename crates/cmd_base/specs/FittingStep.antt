-- Reading settings that fit a command's arguments: a file for LP is given exactly if LP exists.
use Rattle.std.specs.Prelude.{◌≡◌, ℕ, true, List, Result, Ok, Err, Option, Some}
use Rattle.station_core.specs.Meaning.{Meaning}
use Rattle.station_core.specs.Causes.{Rose}
use Rattle.mode_set.specs.declared.settings.Settings.{Settings as TheSettings}
use Rattle.cmd_base.specs.declared.refusal.Refusal.{Refusal}
use Rattle.cmd_base.specs.declared.refusal.Refusal.TheVariants.{Settings, ReadFault, Memory}
use Rattle.cmd_base.specs.StreamForm.{fits_form, fitting_refusal}
use Rattle.cmd_base.specs.SettingsStep.{ReadsSettings}

-- settings that fit the arguments, or the reason why there are none
abbrev pub Accepts : List ℕ → Option (List ℕ) → Meaning → Meaning → Result TheSettings Refusal → Type 0
Accepts name lp old new (Ok s) = ReadsSettings name old new (Ok s) × (fits_form s lp ≡ true)
Accepts name lp old new (Err ReadFault) = Rose old.read_faults new.read_faults
Accepts name lp old new (Err Memory) = new.read_faults ≡ old.read_faults
Accepts name lp old new (Err (Settings reason)) =
    (new.read_faults ≡ old.read_faults)
    × (old.tells ≡ true → fitting_refusal (old.file name) lp ≡ Some (Settings reason))
Accepts name lp old new (Err refusal) = ⊥
