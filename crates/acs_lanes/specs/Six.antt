-- Six steps of the lanes.
use Rattle.std.specs.Prelude.{◌≡◌, ℕ, ◌+◌, ◌<◌, ◌≤◌, Bool, List, length, map, slice_index, IsTrue}
use Rattle.std.specs.List.{range_with_len}
use Rattle.code_paths.specs.declared.costs.CostPair.{CostPair}
use Rattle.acs_plain.specs.Spread.{IsSpread}
use Rattle.acs_plain.specs.Steps.{AreSteps}
use Rattle.acs_lanes.specs.Lanes16.{all_with}
use Rattle.acs_lanes.specs.Phases.{IsLow, in_order, sum_word}

-- six words from one on are the sums of pairs, which are low where that is said
abbrev pub HaveSums : Bool → List ℕ → ℕ → Type 0
HaveSums low words at = (k : ℕ) → k < 6 → (pair : CostPair) × (slice_index words (at + k) ≡ sum_word pair)
    × (IsTrue low → IsLow pair)

-- Six steps lead from costs to others. Six words from one on have the sums of the steps before, and their decisions
-- after, in the order of the phases; the other words stay.
pub record AreSixSteps (at : ℕ) (from to old new : List ℕ) : Type 0 where
  pub steps : (pairs : ℕ → CostPair) → ((k : ℕ) → k < 6 → slice_index old (at + k) ≡ sum_word (pairs k))
      → AreSteps (all_with from) (map pairs (range_with_len 0 6)) (all_with to)
      (map (λ k. in_order k (slice_index new (at + k))) (range_with_len 0 6))
  pub spread : IsSpread (all_with to)
  pub below : (k : ℕ) → k < at → slice_index new k ≡ slice_index old k
  pub above : (k : ℕ) → at + 6 ≤ k → slice_index new k ≡ slice_index old k
  pub room : length new ≡ length old
