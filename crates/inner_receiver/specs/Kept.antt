-- The invariant of the costs of symbols.
use Rattle.std.specs.Prelude.{◌≡◌, ℕ, ◌*◌, ◌<◌, ◌≤◌, Bool, true, false, List, length}
use Rattle.code_paths.specs.declared.costs.CostPair.{CostPair}
use Rattle.mode_set.specs.declared.modes.Mode.{Mode}
use Rattle.mode_set.specs.declared.modes.Stream.TheVariants.{Hp, Lp}
use Rattle.mode_set.specs.declared.settings.Settings.{Settings}
use Rattle.inner_receiver.specs.Rooms.{most_pairs}

-- The mode of the settings is that of the type. An unfinished symbol lacks at least a byte, a whole one none. The pairs
-- of each stream fit, for a symbol of any parameters.
pub record AreKept (mode : Mode) (carriers : ℕ) (settings inner : Settings) (symbol : List ℕ) (whole : Bool)
    (hp lp : List CostPair) (hp_used lp_used : ℕ) : Type 0 where
  pub mode_is : settings.mode ≡ mode
  pub inner_is : inner ≡ settings
  pub unfinished : whole ≡ false → length symbol < 5 * carriers
  pub ended : whole ≡ true → length symbol ≡ 5 * carriers
  pub hp_room : most_pairs settings Hp ≤ length hp
  pub lp_room : most_pairs settings Lp ≤ length lp
  pub hp_few : hp_used ≤ most_pairs settings Hp
  pub lp_few : lp_used ≤ most_pairs settings Lp
