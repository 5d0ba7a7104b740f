-- The visible state of the costs of symbols.
use Rattle.std.specs.Prelude.{ℕ, Bool, List}
use Rattle.code_paths.specs.declared.costs.CostPair.{CostPair}
use Rattle.mode_set.specs.declared.modes.Stream.{Stream}
use Rattle.mode_set.specs.declared.modes.Stream.TheVariants.{Hp, Lp}
use Rattle.mode_set.specs.declared.settings.Settings.{Settings}
use Rattle.qam_map.specs.declared.cell.Cell.{Cell}

-- the settings, the bytes of the unfinished symbol, the number of whole symbols, whether the last bytes completed one,
-- and then its cells, their weights and the cost pairs of each stream
pub record CostsState : Type 0 where
  pub settings : Settings
  pub rest : List ℕ
  pub taken : ℕ
  pub whole : Bool
  pub cells : List Cell
  pub weights : List ℕ
  pub hp : List CostPair
  pub lp : List CostPair

-- the cost pairs of a stream
abbrev pub pairs_of : CostsState → Stream → List CostPair
pairs_of x Hp = x.hp
pairs_of x Lp = x.lp
