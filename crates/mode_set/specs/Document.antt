-- The settings that a document states, and the first reason to reject it.
use Rattle.std.specs.Prelude.{◌≡◌, ℕ, not, List, [], ◌∷◌, Option, Some, None, position, Ok}
use Rattle.std.specs.Result.{result_err}
use Rattle.toml.specs.Data.{Members}
use Rattle.mode_set.specs.Keys.{is_key}
use Rattle.mode_set.specs.AtKeys.{document, keys_of, mode_in, shape_in, hierarchy_in, rate_hp_in, rate_lp_in, guard_in}
use Rattle.mode_set.specs.AtKeys.{cell_id_in, start_in, workers_in, max_symbols_in, hierarchy_clash, rate_lp_clash}
use Rattle.mode_set.specs.AtKeys.{first_of}
use Rattle.mode_set.specs.PlanKey.{plan_in}
use Rattle.mode_set.specs.StatedSettings.{settings_of}
use Rattle.mode_set.specs.declared.error.SettingsError.{SettingsError}
use Rattle.mode_set.specs.declared.error.SettingsError.TheVariants.{NotToml, Unknown}
use Rattle.mode_set.specs.declared.settings.Settings.{Settings}

-- the index of the first unknown key
abbrev pub first_unknown : Members → Option ℕ
first_unknown ms = position (λ k. not (is_key k)) (keys_of ms)

-- the error for an unknown key
abbrev pub unknown : Option ℕ → Option SettingsError
unknown None = None
unknown (Some n) = Some (Unknown n)

-- the reasons to reject a document, in the order of the tests
abbrev pub reasons : Members → List (Option SettingsError)
reasons ms =
    unknown (first_unknown ms) ∷ result_err (mode_in ms) ∷ result_err (shape_in ms) ∷ result_err (hierarchy_in ms)
    ∷ result_err (rate_hp_in ms) ∷ result_err (rate_lp_in ms) ∷ result_err (guard_in ms) ∷ result_err (cell_id_in ms)
    ∷ result_err (start_in ms) ∷ result_err (workers_in ms) ∷ result_err (max_symbols_in ms) ∷ result_err (plan_in ms)
    ∷ hierarchy_clash (shape_in ms) (hierarchy_in ms) ∷ rate_lp_clash (hierarchy_in ms) (rate_lp_in ms) ∷ []

-- the error for the bytes of a settings file, if there is one
abbrev pub refusal : List ℕ → Option SettingsError
refusal bytes = of_document (document bytes)
  where
    of_document : Option Members → Option SettingsError
    of_document None = Some NotToml
    of_document (Some ms) = first_of (reasons ms)

-- each setting is the value at its key
pub record States (ms : Members) (s : Settings) : Type 0 where
  pub mode : mode_in ms ≡ Ok s.mode
  pub shape : shape_in ms ≡ Ok s.shape
  pub hierarchy : hierarchy_in ms ≡ Ok s.hierarchy
  pub rate_hp : rate_hp_in ms ≡ Ok s.rate_hp
  pub rate_lp : rate_lp_in ms ≡ Ok s.rate_lp
  pub guard : guard_in ms ≡ Ok s.guard
  pub cell_id : cell_id_in ms ≡ Ok s.cell_id
  pub start : start_in ms ≡ Ok s.start
  pub workers : workers_in ms ≡ Ok s.workers
  pub max_symbols : max_symbols_in ms ≡ Ok s.max_symbols
  pub plan : plan_in ms ≡ Ok s.plan

-- the settings are those that the bytes state
abbrev pub IsStatedBy : Settings → List ℕ → Type 0
IsStatedBy s bytes = settings_of bytes ≡ Some s
