-- The contents of the lanes.
use Rattle.std.specs.Prelude.{◌≡◌, ℕ, ◌+◌, ◌*◌, ◌^◌, ◌<◌, ◌≤◌, min, Bool, true, false, List, [], ◌∷◌, ◌++◌, length}
use Rattle.std.specs.Prelude.{slice_index, IsTrue}
use Rattle.std.specs.Bool.{nat_lt}
use Rattle.spec_words.specs.Bits.{is_set}
use Rattle.acs_plain.specs.declared.sums.Sums.{Sums}
use Rattle.code_paths.specs.declared.costs.CostPair.{CostPair}
use Rattle.code_paths.specs.Paths.{step_cost}
use Rattle.code_paths.specs.States.{register}
use Rattle.acs_plain.specs.Steps.{alive}

-- the cost of a state that is not alive, above all others
abbrev pub far : ℕ
far = 2147483648

-- the highest cost of an alive state before a step
abbrev pub top : ℕ
top = 1073872896

-- all states are alive, and no step overflows 32 bits
pub record IsReady (sums : Sums) : Type 0 where
  pub lives : (n : ℕ) → n < 64 → IsTrue (alive sums n)
  pub small : (n : ℕ) → n < 64 → slice_index sums.cost n ≤ top

-- alive costs are reduced by one number and small; other states have the cost `far`
pub record IsSettled (old new : Sums) (less : ℕ) : Type 0 where
  pub lives : (n : ℕ) → n < 64 → IsTrue (alive old n) → slice_index new.cost n + less ≡ slice_index old.cost n
  pub small : (n : ℕ) → n < 64 → IsTrue (alive old n) → slice_index new.cost n ≤ top
  pub dead : (n : ℕ) → n < 64 → alive old n ≡ false → slice_index new.cost n ≡ far

-- the cost of the step from state 2k or 2k + 1 on an input
abbrev pub cost_from : CostPair → ℕ → Bool → ℕ → ℕ
cost_from pair parity input k = step_cost pair (register (2 * k + parity) ++ input ∷ [])

-- a cost is that of the step from state 2k + parity on an input, at most 8190
pub record AreSteps (pair : CostPair) (parity : ℕ) (input : Bool) (k cost : ℕ) : Type 0 where
  pub is : cost ≡ cost_from pair parity input k
  pub small : cost ≤ 8190

-- the costs of the four value pairs of X and Y
abbrev pub four : CostPair → List ℕ
four pair = (pair.x0 + pair.y0) ∷ (pair.x0 + pair.y1) ∷ (pair.x1 + pair.y0) ∷ (pair.x1 + pair.y1) ∷ []

-- the costs of the steps from states 2k and 2k + 1 for sixteen k: `zero` for the even ones on 0 and the odd ones on 1,
-- `one` for the others
pub record AreStepCosts (pair : CostPair) (from : ℕ) (zero one : List ℕ) : Type 0 where
  pub zero_len : length zero ≡ 16
  pub one_len : length one ≡ 16
  pub even_zero : (k : ℕ) → k < 16 → AreSteps pair 0 false (from + k) (slice_index zero k)
  pub odd_one : (k : ℕ) → k < 16 → AreSteps pair 1 true (from + k) (slice_index zero k)
  pub even_one : (k : ℕ) → k < 16 → AreSteps pair 0 true (from + k) (slice_index one k)
  pub odd_zero : (k : ℕ) → k < 16 → AreSteps pair 1 false (from + k) (slice_index one k)

-- two vectors of 16 lanes whose sums fit
pub record AreLess (costs steps : List ℕ) : Type 0 where
  pub costs_len : length costs ≡ 16
  pub steps_len : length steps ≡ 16
  pub fits : (k : ℕ) → k < 16 → slice_index costs k + slice_index steps k < 2 ^ 32

-- the lower cost of the ways from states 2k and 2k + 1 for sixteen k, and whether the odd one is strictly lower
pub record AreTaken (old even_steps odd_steps costs : List ℕ) (word : ℕ) : Type 0 where
  pub len : length costs ≡ 16
  pub cost : (k : ℕ) → k < 16 → slice_index costs k ≡ min (slice_index old (2 * k) + slice_index even_steps k)
      (slice_index old (2 * k + 1) + slice_index odd_steps k)
  pub odd : (k : ℕ) → k < 16 → is_set word k ≡ nat_lt (slice_index old (2 * k + 1) + slice_index odd_steps k)
      (slice_index old (2 * k) + slice_index even_steps k)
  pub small : word < 2 ^ 16

-- the step of 32 consecutive states: new costs of sixteen states below 32, starting at `from`, and of the sixteen
-- states 32 above them
pub record IsHalfStep (pair : CostPair) (from : ℕ) (part : List ℕ) (low_cost high_cost : ℕ → ℕ) (low_word high_word : ℕ)
    : Type 0 where
  pub zero : List ℕ
  pub one : List ℕ
  pub low : List ℕ
  pub high : List ℕ
  pub steps : AreStepCosts pair from zero one
  pub low_taken : AreTaken part zero one low low_word
  pub high_taken : AreTaken part one zero high high_word
  pub low_is : (k : ℕ) → k < 16 → low_cost k ≡ slice_index low k
  pub high_is : (k : ℕ) → k < 16 → high_cost k ≡ slice_index high k

-- the step of all states: new state k on input 0 and k + 32 on input 1, both from states 2k and 2k + 1
pub record IsLaneStep (pair : CostPair) (old new : List ℕ) (low high : ℕ) : Type 0 where
  pub low_cost : (k : ℕ) → k < 32 → slice_index new k ≡ min (slice_index old (2 * k) + cost_from pair 0 false k)
      (slice_index old (2 * k + 1) + cost_from pair 1 false k)
  pub low_odd : (k : ℕ) → k < 32 → is_set low k ≡ nat_lt (slice_index old (2 * k + 1) + cost_from pair 1 false k)
      (slice_index old (2 * k) + cost_from pair 0 false k)
  pub low_small : low < 2 ^ 32
  pub high_cost : (k : ℕ) → k < 32 → slice_index new (k + 32)
      ≡ min (slice_index old (2 * k) + cost_from pair 0 true k) (slice_index old (2 * k + 1) + cost_from pair 1 true k)
  pub high_odd : (k : ℕ) → k < 32 → is_set high k ≡ nat_lt (slice_index old (2 * k + 1) + cost_from pair 1 true k)
      (slice_index old (2 * k) + cost_from pair 0 true k)
