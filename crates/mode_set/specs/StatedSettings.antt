-- The settings that the bytes of a file state, if any (`settings_of`).
use Rattle.std.specs.Prelude.{◌≡◌, ℕ, Bool, true, false, List, Option, Some, None, option_and_then, Result, Ok, refl}
use Rattle.mode_set.specs.Kept.{IsKept, fit}
use Rattle.mode_set.specs.KeptBy.{kept_if}
use Rattle.mode_set.specs.AtKeys.{document, mode_in, shape_in, hierarchy_in, rate_hp_in, rate_lp_in, guard_in}
use Rattle.mode_set.specs.AtKeys.{cell_id_in, start_in, workers_in, max_symbols_in}
use Rattle.mode_set.specs.PlanKey.{plan_in}
use Rattle.mode_set.specs.declared.error.SettingsError.{SettingsError}
use Rattle.mode_set.specs.declared.modes.Mode.{Mode}
use Rattle.mode_set.specs.declared.modes.Shape.{Shape}
use Rattle.mode_set.specs.declared.modes.Hierarchy.{Hierarchy}
use Rattle.mode_set.specs.declared.modes.Rate.{Rate}
use Rattle.mode_set.specs.declared.modes.Guard.{Guard}
use Rattle.mode_set.specs.declared.modes.Start.{Start}
use Rattle.mode_set.specs.declared.plan.Plan.{Plan}
use Rattle.mode_set.specs.declared.settings.Settings.{Settings}

-- settings of these values and this plan, if they fit one another
abbrev pub settings_if : Mode → (shape : Shape) (hierarchy : Hierarchy) → Rate → (rate_lp : Option Rate) → Guard
    → Option ℕ → Start → (workers most : ℕ) → Plan
    → (fits : Bool) → (fits ≡ true → IsKept shape hierarchy rate_lp workers most) → Option Settings
settings_if mode shape hierarchy rate_hp rate_lp guard cell_id start workers most plan true kept = Some (record {
  mode = mode;
  shape = shape;
  hierarchy = hierarchy;
  rate_hp = rate_hp;
  rate_lp = rate_lp;
  guard = guard;
  cell_id = cell_id;
  start = start;
  workers = workers;
  max_symbols = most;
  plan = plan;
  kept = kept refl;
})
settings_if mode shape hierarchy rate_hp rate_lp guard cell_id start workers most plan false kept = None

-- the same from the values at the keys of a document
abbrev pub settings_from : Result Mode SettingsError → Result Shape SettingsError → Result Hierarchy SettingsError
    → Result Rate SettingsError → Result (Option Rate) SettingsError
    → Result Guard SettingsError → Result (Option ℕ) SettingsError → Result Start SettingsError → Result ℕ SettingsError
    → Result ℕ SettingsError → Result Plan SettingsError → Option Settings
settings_from (Ok mode) (Ok shape) (Ok hierarchy) (Ok rate_hp) (Ok rate_lp) (Ok guard) (Ok cell_id) (Ok start)
    (Ok workers) (Ok most) (Ok plan) =
    settings_if mode shape hierarchy rate_hp rate_lp guard cell_id start workers most plan
    (fit shape hierarchy rate_lp workers most) (kept_if shape hierarchy rate_lp workers most)
settings_from mode shape hierarchy rate_hp rate_lp guard cell_id start workers most plan = None

-- the settings that these bytes state, if they are a valid document
unfoldable pub settings_of : List ℕ → Option Settings
settings_of bytes =
    option_and_then (λ ms. settings_from (mode_in ms) (shape_in ms) (hierarchy_in ms) (rate_hp_in ms) (rate_lp_in ms)
    (guard_in ms) (cell_id_in ms) (start_in ms) (workers_in ms) (max_symbols_in ms) (plan_in ms)) (document bytes)
