-- How the bytes of cells change the costs of symbols.
use Rattle.std.specs.Prelude.{◌≡◌, ℕ, true, false, List, ◌++◌, take, map}
use Rattle.mode_set.specs.declared.modes.Stream.{Stream}
use Rattle.pilots.specs.Carriers.{tps_carriers}
use Rattle.qam_map.specs.Cells.{cell_of}
use Rattle.reception.specs.Cells.{symbols, symbol_cells, symbol_weights}
use Rattle.reception.specs.Costs.{costs}
use Rattle.reception.specs.Feeds.{taken}
use Rattle.reception.specs.Frames.{tps_cells}
use Rattle.reception.specs.Laws.{IsWithin, EndsSymbol, unfinished}
use Rattle.inner_receiver.specs.Seen.{CostsState, pairs_of}

-- the bytes received so far
pub record HasHad (x : CostsState) (bytes : List ℕ) : Type 0 where
  pub taken : x.taken ≡ symbols x.settings bytes
  pub rest : x.rest ≡ unfinished x.settings bytes

-- The bytes p complete a symbol. Its cells, their weights and the cost pairs of each stream are known.
pub record Ends (x : CostsState) (bytes p : List ℕ) : Type 0 where
  pub ends : EndsSymbol x.settings bytes p
  pub cells_are : x.cells ≡ symbol_cells x.settings (bytes ++ p) (symbols x.settings bytes)
  pub weights_are : x.weights ≡ symbol_weights x.settings (bytes ++ p) (symbols x.settings bytes)
  pub costs_are : (σ : Stream) → costs x.settings (bytes ++ p) σ ≡ costs x.settings bytes σ ++ pairs_of x σ
  pub tps_are : tps_cells x.settings (bytes ++ p) (symbols x.settings bytes)
      ≡ map (cell_of x.cells) (tps_carriers x.settings.mode)

-- n bytes of a piece were taken, whether they completed a symbol or not
pub record Fed (x : CostsState) (bytes piece : List ℕ) (n : ℕ) : Type 0 where
  pub count : n ≡ taken x.settings bytes piece
  pub had : HasHad x (bytes ++ take n piece)
  pub within : x.whole ≡ false → IsWithin x.settings bytes (take n piece)
  pub ends : x.whole ≡ true → Ends x bytes (take n piece)
