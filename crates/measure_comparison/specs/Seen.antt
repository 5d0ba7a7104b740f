-- The visible state of a comparer.
use Rattle.std.specs.Prelude.{ℕ, List}
use Rattle.mode_set.specs.declared.settings.Settings.{Settings}
use Rattle.mode_set.specs.declared.modes.Stream.{Stream}
use Rattle.mode_set.specs.declared.modes.Stream.TheVariants.{Hp, Lp}
use Rattle.qam_map.specs.declared.cell.Cell.{Cell}
use Rattle.inner_chain.specs.Labels.{TxState}
use Rattle.measure_known_bits.specs.Seen.{KnownState}

-- the cells of a symbol and their weights
pub record SymbolState : Type 0 where
  pub cells : List Cell
  pub weights : List ℕ

-- the settings, the inner coder, the symbols kept, number m at index m mod 4, and the number of the next symbol to
-- compare
pub record ComparerState : Type 0 where
  pub settings : Settings
  pub coder : TxState
  pub kept : List SymbolState
  pub next : ℕ

-- the known bits of a stream
abbrev pub known_of : KnownState → KnownState → Stream → KnownState
known_of hp lp Hp = hp
known_of hp lp Lp = lp
