-- One add-compare-select step over the 64 states.
use Rattle.std.specs.Prelude.{◌≡◌, ℕ, ◌+◌, ◌<◌, ◌≤◌, Bool, cond, not, ◌&&◌, ◌||◌, List, [], ◌∷◌, ◌++◌, slice_index}
use Rattle.std.specs.Prelude.{IsTrue}
use Rattle.std.specs.Bool.{nat_lt}
use Rattle.code_paths.specs.Paths.{step_cost}
use Rattle.code_paths.specs.States.{even_of, odd_of}
use Rattle.code_paths.specs.States.{register}
use Rattle.spec_words.specs.Bits.{is_set}
use Rattle.code_paths.specs.declared.costs.CostPair.{CostPair}
use Rattle.acs_plain.specs.declared.sums.Sums.{Sums}

-- state n is alive
abbrev pub alive : Sums → ℕ → Bool
alive sums n = is_set sums.alive n

-- the cost of state n when reached from state `from`
abbrev pub way : Sums → CostPair → ℕ → ℕ → ℕ
way sums pair from n = slice_index sums.cost from + step_cost pair (register from ++ is_set n 5 ∷ [])

-- The odd way is taken if the even one is not alive or costs more.
abbrev pub takes_odd : Sums → CostPair → ℕ → Bool
takes_odd sums pair n = alive sums (odd_of n) && (not (alive sums (even_of n)) || nat_lt (way sums pair (odd_of n) n)
    (way sums pair (even_of n) n))

-- The result of a step: the alive states, the way chosen into each, and the cost of each, less one number common to
-- all.
pub record IsStep (old : Sums) (pair : CostPair) (new : Sums) (answer : ℕ) : Type 0 where
  pub less : ℕ
  pub lives : (n : ℕ) → n < 64 → alive new n ≡ (alive old (even_of n) || alive old (odd_of n))
  pub choice : (n : ℕ) → n < 64 → IsTrue (alive new n) → is_set answer n ≡ takes_odd old pair n
  pub cost : (n : ℕ) → n < 64 → IsTrue (alive new n) → slice_index new.cost n + less
      ≡ way old pair (cond (takes_odd old pair n) (odd_of n) (even_of n)) n

-- the costs of alive states differ by at most `most`
pub record Close (most : ℕ) (sums : Sums) : Type 0 where
  pub close : (m n : ℕ) → m < 64 → n < 64 → IsTrue (alive sums m) → IsTrue (alive sums n)
      → slice_index sums.cost m ≤ slice_index sums.cost n + most

-- some state is alive
pub record SomeAlive (sums : Sums) : Type 0 where
  pub state : ℕ
  pub below : state < 64
  pub lives : IsTrue (alive sums state)

-- some alive state has this cost
pub record HasCost (sums : Sums) (cost : ℕ) : Type 0 where
  pub state : ℕ
  pub below : state < 64
  pub lives : IsTrue (alive sums state)
  pub is : slice_index sums.cost state ≡ cost

-- Steps on the pairs in order, one decision word each: intermediate metrics exist, and each step leads from one to the
-- next.
abbrev pub AreSteps : Sums → List CostPair → Sums → List ℕ → Type 0
AreSteps old [] new [] = old ≡ new
AreSteps old [] new (word ∷ words) = ⊥
AreSteps old (pair ∷ pairs) new [] = ⊥
AreSteps old (pair ∷ pairs) new (word ∷ words) = (next : Sums) × IsStep old pair next word
    × AreSteps next pairs new words
