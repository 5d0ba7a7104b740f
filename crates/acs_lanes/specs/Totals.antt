-- Least totals to each state and from each state, advanced by one step (EN 300 744, 4.3.3).
use Rattle.std.specs.Prelude.{◌≡◌, ℕ, ◌+◌, ◌*◌, ◌<◌, min, true, false, List, slice_index}
use Rattle.code_paths.specs.declared.costs.CostPair.{CostPair}
use Rattle.acs_lanes.specs.Lanes.{cost_from}

-- The sums to each state after the step: to state k on input 0 and to state k + 32 on input 1, each the lower of the
-- ways from states 2k and 2k + 1.
pub record IsForward (pair : CostPair) (old new : List ℕ) : Type 0 where
  pub zero : (k : ℕ) → k < 32 → slice_index new k ≡ min (slice_index old (2 * k) + cost_from pair 0 false k)
      (slice_index old (2 * k + 1) + cost_from pair 1 false k)
  pub one : (k : ℕ) → k < 32 → slice_index new (k + 32) ≡ min (slice_index old (2 * k) + cost_from pair 0 true k)
      (slice_index old (2 * k + 1) + cost_from pair 1 true k)

-- The sums from each state before the step: from states 2k and 2k + 1, each the lower of the ways to state k on 0 and
-- to state k + 32 on 1.
pub record IsBackward (pair : CostPair) (old new : List ℕ) : Type 0 where
  pub even : (k : ℕ) → k < 32 → slice_index new (2 * k) ≡ min (slice_index old k + cost_from pair 0 false k)
      (slice_index old (k + 32) + cost_from pair 0 true k)
  pub odd : (k : ℕ) → k < 32 → slice_index new (2 * k + 1) ≡ min (slice_index old k + cost_from pair 1 false k)
      (slice_index old (k + 32) + cost_from pair 1 true k)
