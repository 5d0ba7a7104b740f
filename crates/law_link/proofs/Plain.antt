-- The costs of upgraded cells.
use Rattle.std.proofs.Common.{◌≡◌, ℕ, ◌-◌, ◌%◌, ◌<◌, List, refl, sym, ap, ◌∙◌, subst}
use Rattle.std.specs.Prelude.{slice_index, slice_index_or, Option, Some, None}
use Rattle.code_paths.specs.declared.costs.CostPair.{CostPair}
use Rattle.mode_set.specs.StreamTable.{rate}
use Rattle.mode_set.specs.declared.modes.Stream.{Stream}
use Rattle.mode_set.specs.declared.settings.Settings.{Settings}
use Rattle.puncture.specs.SentBits.{X, Y}
use Rattle.puncture.specs.Steps.{number_of, costs_at}
use Rattle.pilots.specs.Carriers.{payload_carriers}
use Rattle.qam_map.specs.declared.cell.Cell.{Cell}
use Rattle.soft_metric.specs.Weights.{full_weight, weighted, WholeWeightChangesNothing}
use Rattle.inner_chain.specs.CostPairs.{payload_place, weight_of, weighted_costs_on, costs_of_bit}
use Rattle.inner_chain.specs.PairLists.{pair_of}
use Rattle.symbol_parameters.specs.Spans.{settings_at, steps_before, IsStepOf}
use Rattle.reception.specs.Cells.{symbol_cells, symbol_weights}
use Rattle.reception.specs.Costs.{costs}
use Rattle.reception.specs.Laws.{CostsAreSteps, CostOfStep}
use Rattle.law_link.specs.OldCells.{old_symbols, old_symbol_cells, upgraded}
use Rattle.law_link.specs.Plain.{plain_costs_of_bit, IsPlainPairOf}
use Rattle.law_link.specs.UpgradedCells.{UpgradedCostsArePlain}
use Rattle.law_link.proofs.UpgradedCells.{upgraded_are_whole, same_cells, whole_weights}

same_costs : WholeWeightChangesNothing → (s : Settings) (cells : List Cell) (weights : List ℕ) (l : ℕ) (σ : Stream) (d : Option ℕ) → ((k : ℕ) → weight_of weights k ≡ full_weight)
    → costs_at (costs_of_bit s cells weights l σ) d ≡ costs_at (plain_costs_of_bit s cells l σ) d
unfolding weighted_costs_on
same_costs law s cells weights l σ None w = refl
same_costs law s cells weights l σ (Some d) w =
    ap (λ (z : ℕ). weighted (plain_costs_of_bit s cells l σ d) z) (w (slice_index (payload_carriers s.mode l) (payload_place s l σ d))) ∙ law (plain_costs_of_bit s cells l σ d)

plain_pair : WholeWeightChangesNothing → (s : Settings) (cells : List Cell) (weights : List ℕ) (l : ℕ) (σ : Stream) (t : ℕ) → ((k : ℕ) → weight_of weights k ≡ full_weight) → IsPlainPairOf s cells l σ t (pair_of s cells weights l σ t)
unfolding pair_of
plain_pair law s cells weights l σ t w = record { x = same_costs law s cells weights l σ (number_of (rate s σ) X t) w; y = same_costs law s cells weights l σ (number_of (rate s σ) Y t) w }

pub upgraded_costs_are_plain : WholeWeightChangesNothing → CostsAreSteps → CostOfStep → UpgradedCostsArePlain
upgraded_costs_are_plain law long step s bytes σ = record { long = long s (upgraded s.mode bytes) σ ∙ ap (steps_before s σ) (upgraded_are_whole s bytes).many; pairs = pairs }
  where
    pairs : (m t : ℕ) (d : CostPair) → m < old_symbols s.mode bytes → IsStepOf s σ m t
        → IsPlainPairOf (settings_at s m) (old_symbol_cells s.mode bytes m) (m % 68) σ (t - steps_before s σ m) (slice_index_or (costs s (upgraded s.mode bytes) σ) t d)
    pairs m t d l o =
        let z : Settings = settings_at s m in
        let i : ℕ = t - steps_before s σ m in
        let up : List ℕ = upgraded s.mode bytes in
        let within = subst (λ (n : ℕ). m < n) (sym (upgraded_are_whole s bytes).many) l in
        let plain = plain_pair law z (symbol_cells s up m) (symbol_weights s up m) (m % 68) σ i (λ k. whole_weights s bytes m k l) in
        let seen = subst (λ (c : CostPair). IsPlainPairOf z (symbol_cells s up m) (m % 68) σ i c) (sym (step s up σ m t d within o)) plain in
        subst (λ (cells : List Cell). IsPlainPairOf z cells (m % 68) σ i (slice_index_or (costs s up σ) t d)) (same_cells s bytes m l) seen
