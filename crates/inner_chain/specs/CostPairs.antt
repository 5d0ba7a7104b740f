-- The costs of the coded bits of a symbol, from its cells and their weights.
use Rattle.std.specs.Prelude.{◌≡◌, ℕ, ◌<◌, true, false, List, ◌++◌, length, get_or, slice_index, slice_index_or}
use Rattle.code_paths.specs.declared.costs.CostPair.{CostPair}
use Rattle.mode_set.specs.StreamTable.{need, rate}
use Rattle.mode_set.specs.declared.modes.Stream.{Stream}
use Rattle.mode_set.specs.declared.settings.Settings.{Settings}
use Rattle.puncture.specs.SentBits.{X, Y}
use Rattle.puncture.specs.Steps.{number_of, costs_at}
use Rattle.bit_interleave.specs.Place.{place_in_label, word_of_bit}
use Rattle.symbol_interleave.specs.Carried.{is_odd, place_of_word}
use Rattle.pilots.specs.Carriers.{payload_carriers}
use Rattle.qam_map.specs.Cells.{cell_of}
use Rattle.qam_map.specs.Points.{on_axis}
use Rattle.qam_map.specs.declared.cell.Cell.{Cell}
use Rattle.soft_metric.specs.Costs.{cost}
use Rattle.soft_metric.specs.Weights.{full_weight, weight_of_byte, weighted}

-- the payload carrier of symbol l for coded bit d of a stream: the one with the bit's word
abbrev pub payload_place : Settings → ℕ → Stream → ℕ → ℕ
payload_place s l σ d = place_of_word s.mode (is_odd l) (word_of_bit s.shape s.hierarchy σ d)

-- the costs of values 0 and 1 for label bit e on payload carrier q of symbol l
unfoldable pub costs_on : Settings → List Cell → ℕ → ℕ → ℕ → ℕ × ℕ
costs_on s cells l q e = let x = on_axis (cell_of cells (slice_index (payload_carriers s.mode l) q)) e in
    (cost s.shape s.hierarchy x e false, cost s.shape s.hierarchy x e true)

-- the weight of carrier k; above 15 it counts as 15
abbrev pub weight_of : List ℕ → ℕ → ℕ
weight_of weights k = weight_of_byte (get_or weights k full_weight)

-- those costs, weighted by the cell's weight
unfoldable pub weighted_costs_on : Settings → List Cell → List ℕ → ℕ → ℕ → ℕ → ℕ × ℕ
weighted_costs_on s cells weights l q e = weighted (costs_on s cells l q e) (weight_of weights
    (slice_index (payload_carriers s.mode l) q))

-- the weighted costs of coded bit d, from the cell of its payload carrier and the axis of its label bit
abbrev pub costs_of_bit : Settings → List Cell → List ℕ → ℕ → Stream → ℕ → ℕ × ℕ
costs_of_bit s cells weights l σ d = weighted_costs_on s cells weights l (payload_place s l σ d) (place_in_label s.shape
    s.hierarchy σ d)

-- the cost pair of step t: the weighted costs of its X and its Y, 0 for a punctured bit
pub record IsPairOf (s : Settings) (cells : List Cell) (weights : List ℕ) (l : ℕ) (σ : Stream) (t : ℕ) (c : CostPair) :
    Type 0 where
  pub x : (c.x0, c.x1) ≡ costs_at (costs_of_bit s cells weights l σ) (number_of (rate s σ) X t)
  pub y : (c.y0, c.y1) ≡ costs_at (costs_of_bit s cells weights l σ) (number_of (rate s σ) Y t)

-- one pair for each step of a symbol is appended to a list
pub record AppendsPairs (s : Settings) (cells : List Cell) (weights : List ℕ) (l : ℕ) (σ : Stream)
    (old new : List CostPair) : Type 0 where
  pub pairs : List CostPair
  pub long : length pairs ≡ need s σ
  pub at : (t : ℕ) (d : CostPair) → t < need s σ → IsPairOf s cells weights l σ t (slice_index_or pairs t d)
  pub is : new ≡ old ++ pairs
