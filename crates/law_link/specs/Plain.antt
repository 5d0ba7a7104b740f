-- Costs without weights.
use Rattle.std.specs.Prelude.{◌≡◌, ℕ, List}
use Rattle.code_paths.specs.declared.costs.CostPair.{CostPair}
use Rattle.mode_set.specs.StreamTable.{rate}
use Rattle.mode_set.specs.declared.modes.Stream.{Stream}
use Rattle.mode_set.specs.declared.settings.Settings.{Settings}
use Rattle.puncture.specs.SentBits.{X, Y}
use Rattle.puncture.specs.Steps.{number_of, costs_at}
use Rattle.bit_interleave.specs.Place.{place_in_label}
use Rattle.qam_map.specs.declared.cell.Cell.{Cell}
use Rattle.inner_chain.specs.CostPairs.{payload_place, costs_on}

-- the costs of coded bit d of a stream in symbol l of a frame, from the cell alone
abbrev pub plain_costs_of_bit : Settings → List Cell → ℕ → Stream → ℕ → ℕ × ℕ
plain_costs_of_bit s cells l σ d = costs_on s cells l (payload_place s l σ d) (place_in_label s.shape s.hierarchy σ d)

-- the cost pair of step t: the costs of its X and its Y, 0 for a punctured bit
pub record IsPlainPairOf (s : Settings) (cells : List Cell) (l : ℕ) (σ : Stream) (t : ℕ) (c : CostPair) : Type 0 where
  pub x : (c.x0, c.x1) ≡ costs_at (plain_costs_of_bit s cells l σ) (number_of (rate s σ) X t)
  pub y : (c.y0, c.y1) ≡ costs_at (plain_costs_of_bit s cells l σ) (number_of (rate s σ) Y t)
