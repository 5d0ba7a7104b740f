-- The cost pairs of a symbol as one list.
use Rattle.std.specs.Prelude.{◌≡◌, ℕ, List, ◌++◌, drop, map, slice_index, Option, Some, None}
use Rattle.std.proofs.Common.{arith}
use Rattle.std.proofs.Math.Nat.{min-le_left}
use Rattle.spec_words.specs.Words.{numbers}
use Rattle.code_paths.specs.declared.costs.CostPair.{CostPair}
use Rattle.mode_set.specs.StreamTable.{need, rate}
use Rattle.mode_set.specs.declared.modes.Stream.{Stream}
use Rattle.mode_set.specs.declared.settings.Settings.{Settings}
use Rattle.puncture.specs.SentBits.{X, Y}
use Rattle.puncture.specs.Steps.{number_of, costs_at}
use Rattle.bit_interleave.specs.Place.{place_in_label}
use Rattle.pilots.specs.Carriers.{payload_carriers}
use Rattle.qam_map.specs.declared.cell.Cell.{Cell}
use Rattle.soft_metric.specs.Costs.{cost}
use Rattle.soft_metric.specs.Squares.{IsSmallPair}
use Rattle.soft_metric.specs.Weights.{weighted_is_small}
use Rattle.inner_chain.specs.CostPairs.{costs_on, weight_of, weighted_costs_on, payload_place, costs_of_bit}
use Rattle.inner_chain.specs.CostPairs.{AppendsPairs}

-- no cost is above 4095
costs_on_are_small : (s : Settings) (cells : List Cell) (l q e : ℕ) → IsSmallPair (costs_on s cells l q e)
unfolding costs_on cost
costs_on_are_small s cells l q e = (min-le_left _ _, min-le_left _ _)

-- no weighted cost is above 4095
pub weighted_costs_are_small : (s : Settings) (cells : List Cell) (weights : List ℕ) (l q e : ℕ)
    → IsSmallPair (weighted_costs_on s cells weights l q e)
unfolding weighted_costs_on
weighted_costs_are_small s cells weights l q e =
    weighted_is_small (costs_on s cells l q e) (weight_of weights (slice_index (payload_carriers s.mode l) q))
    (costs_on_are_small s cells l q e) (min-le_left _ _)

-- no cost of a coded bit is above 4095, sent or punctured
pub costs_are_small : (s : Settings) (cells : List Cell) (weights : List ℕ) (l : ℕ) (σ : Stream) (d : Option ℕ)
    → IsSmallPair (costs_at (costs_of_bit s cells weights l σ) d)
costs_are_small s cells weights l σ None = (omega arith, omega arith)
costs_are_small s cells weights l σ (Some d) = weighted_costs_are_small s cells weights l (payload_place s l σ d)
    (place_in_label s.shape s.hierarchy σ d)

-- the cost pair of step t: the weighted costs of its X and its Y, 0 for a punctured bit
unfoldable pub pair_of : Settings → List Cell → List ℕ → ℕ → Stream → ℕ → CostPair
pair_of s cells weights l σ t =
    let x = costs_at (costs_of_bit s cells weights l σ) (number_of (rate s σ) X t) in
    let y = costs_at (costs_of_bit s cells weights l σ) (number_of (rate s σ) Y t) in
    let x_small = costs_are_small s cells weights l σ (number_of (rate s σ) X t) in
    let y_small = costs_are_small s cells weights l σ (number_of (rate s σ) Y t) in
    record {
      x0 = x.0;
      x1 = x.1;
      y0 = y.0;
      y1 = y.1;
      small = record {
        x0_small = x_small.0;
        x1_small = x_small.1;
        y0_small = y_small.0;
        y1_small = y_small.1;
      };
    }

-- the pairs of a symbol are those of its steps in order
abbrev pub PairsAreListed : Type 0
PairsAreListed = (s : Settings) (cells : List Cell) (weights : List ℕ) (l : ℕ) (σ : Stream) (old new : List CostPair)
    → AppendsPairs s cells weights l σ old new
    → new ≡ old ++ map (pair_of s cells weights l σ) (numbers (need s σ))

-- a list with the pairs of a symbol's steps first, then its old content
abbrev pub BeginsWithPairs : Settings → List Cell → List ℕ → ℕ → Stream → List CostPair → List CostPair → Type 0
BeginsWithPairs s cells weights l σ old new = new ≡ map (pair_of s cells weights l σ) (numbers (need s σ))
    ++ drop (need s σ) old
