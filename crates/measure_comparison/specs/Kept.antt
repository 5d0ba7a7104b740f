-- The invariant of a comparer.
use Rattle.std.specs.Prelude.{◌≡◌, ℕ, ◌≤◌, ◌^◌, List, All, length}
use Rattle.mode_set.specs.StreamTable.{carriers, payload}
use Rattle.mode_set.specs.declared.modes.Mode.{Mode}
use Rattle.mode_set.specs.declared.settings.Settings.{Settings}
use Rattle.inner_chain.specs.Labels.{TxState}
use Rattle.measure_comparison.specs.Seen.{SymbolState}

-- a symbol has a cell and a weight on each of k carriers
abbrev pub IsWhole : ℕ → SymbolState → Type 0
IsWhole k symbol = (length symbol.cells ≡ k) × (length symbol.weights ≡ k)

-- the register of each stream's encoder has six bits
abbrev pub AreLong : TxState → Type 0
AreLong coder = (length coder.hp ≡ 6) × (length coder.lp ≡ 6)

-- the mode of the settings is that of the type; there is space for the labels of a symbol, and for four symbols
pub record IsComparing (mode : Mode) (settings : Settings) (coder : TxState) (capacity : ℕ) (kept : List SymbolState)
    (next : ℕ) : Type 0 where
  pub mode_is : settings.mode ≡ mode
  pub coder_is : coder.settings ≡ settings
  pub registers : AreLong coder
  pub room : payload settings.mode ≤ capacity
  pub four : length kept ≡ 4
  pub whole : All (IsWhole (carriers settings.mode)) kept
  pub few : next ≤ 2 ^ 32
