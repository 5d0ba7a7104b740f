-- The settings of a reception, as announced by a found frame (EN 300 744, 4.6.2).
use Rattle.std.specs.Prelude.{◌≡◌, if◌then◌else◌, Some, None}
use Rattle.mode_set.specs.Kept.{is_flat}
use Rattle.mode_set.specs.Plans.{no_plan}
use Rattle.mode_set.specs.declared.modes.Start.TheVariants.{Any}
use Rattle.mode_set.specs.declared.settings.Settings.{Settings}
use Rattle.tps_word.specs.declared.word.TpsWord.{TpsWord}

-- mode, workers and limit are those of the settings; constellation, hierarchy, rates and guard interval are those of
-- the word; the start register is free
pub record IsAnnounced (word : TpsWord) (given announced : Settings) : Type 0 where
  pub mode_is : announced.mode ≡ given.mode
  pub shape_is : announced.shape ≡ word.shape
  pub hierarchy_is : announced.hierarchy ≡ word.hierarchy
  pub rate_hp_is : announced.rate_hp ≡ word.rate_hp
  pub rate_lp_is : announced.rate_lp ≡ (if is_flat word.hierarchy then None else Some word.rate_lp)
  pub guard_is : announced.guard ≡ word.guard
  pub no_cell : announced.cell_id ≡ None
  pub start_is : announced.start ≡ Any
  pub workers_are : announced.workers ≡ given.workers
  pub most_are : announced.max_symbols ≡ given.max_symbols
  pub plan_is : announced.plan ≡ no_plan
