-- The laws of upgraded cells. Each is the clause of a public function of module laws.
use Rattle.std.specs.Prelude.{◌≡◌, ℕ, ◌-◌, ◌%◌, ◌<◌, List, length, slice_index_or}
use Rattle.code_paths.specs.declared.costs.CostPair.{CostPair}
use Rattle.mode_set.specs.declared.modes.Stream.{Stream}
use Rattle.mode_set.specs.declared.settings.Settings.{Settings}
use Rattle.symbol_parameters.specs.Spans.{settings_at, steps_before, IsStepOf}
use Rattle.reception.specs.Cells.{symbols, tail, symbol_cells}
use Rattle.reception.specs.Costs.{costs}
use Rattle.law_link.specs.OldCells.{old_symbols, old_symbol_cells, upgraded}
use Rattle.law_link.specs.Plain.{IsPlainPairOf}

-- upgraded cells are as many whole symbols as the old ones, with no bytes after them
pub record AreWhole (s : Settings) (bytes : List ℕ) : Type 0 where
  pub many : symbols s (upgraded s.mode bytes) ≡ old_symbols s.mode bytes
  pub no_more : tail s (upgraded s.mode bytes) ≡ 0

-- upgrading keeps the number of whole symbols
abbrev pub UpgradedAreWhole : Type 0
UpgradedAreWhole = (s : Settings) (bytes : List ℕ) → AreWhole s bytes

-- both parts of each cell stay
abbrev pub UpgradedCellsAreOld : Type 0
UpgradedCellsAreOld = (s : Settings) (bytes : List ℕ) (m : ℕ) → m < old_symbols s.mode bytes
    → symbol_cells s (upgraded s.mode bytes) m ≡ old_symbol_cells s.mode bytes m

-- upgraded cells, one cost pair for each step of the old symbols, have the costs of the old cells without weights
pub record ArePlain (s : Settings) (bytes : List ℕ) (σ : Stream) : Type 0 where
  pub long : length (costs s (upgraded s.mode bytes) σ) ≡ steps_before s σ (old_symbols s.mode bytes)
  pub pairs : (m t : ℕ) (d : CostPair) → m < old_symbols s.mode bytes → IsStepOf s σ m t
      → IsPlainPairOf (settings_at s m) (old_symbol_cells s.mode bytes m) (m % 68) σ (t - steps_before s σ m)
      (slice_index_or (costs s (upgraded s.mode bytes) σ) t d)

-- a receiver of upgraded cells has the costs of the old cells
abbrev pub UpgradedCostsArePlain : Type 0
UpgradedCostsArePlain = (s : Settings) (bytes : List ℕ) (σ : Stream) → ArePlain s bytes σ
