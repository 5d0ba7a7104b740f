-- Least totals to a state and from a state.
use Rattle.std.specs.Prelude.{◌≡◌, ℕ, ◌+◌, ◌*◌, ◌<◌, ◌≤◌, ◌^◌, Bool, List, [], ◌++◌, length, take, drop}
use Rattle.std.specs.Prelude.{slice_index, slice_index_or, map}
use Rattle.std.specs.List.{range_with_len}
use Rattle.std.specs.Int.{abs_diff}
use Rattle.std.specs.declared.option.Option.{Option}
use Rattle.std.specs.declared.option.Option.TheVariants.{None, Some}
use Rattle.code_paths.specs.declared.costs.CostPair.{CostPair}
use Rattle.code_paths.specs.Paths.{total, IsPath}
use Rattle.code_paths.specs.States.{register}
use Rattle.code_paths.specs.Trial.{weight}
use Rattle.inner_decoder.specs.declared.decoder.StartState.{StartState}
use Rattle.inner_decoder.specs.declared.decoder.StartState.TheVariants.{Zero, Any}
use Rattle.inner_decoder.specs.Starts.{start_of}
use Rattle.bit_margin.specs.Margin.{IsMargin}

-- m is the least total of the paths over the steps d that start in state n
pub record LeastFrom (d : List CostPair) (n m : ℕ) : Type 0 where
  pub path : List Bool
  pub is_path : IsPath (Some (register n)) d path
  pub is : total d path ≡ m
  pub least : (q : List Bool) → IsPath (Some (register n)) d q → m ≤ total d q

-- these are the least totals from each state
abbrev pub AreBackward : List CostPair → List ℕ → Type 0
AreBackward d sums = (n : ℕ) → n < 64 → LeastFrom d n (slice_index sums n)

-- 64 sums with a number added to each
abbrev pub raised : ℕ → List ℕ → List ℕ
raised less sums = map (λ n. slice_index sums n + less) (range_with_len 0 64)

-- these are the least totals from each state, less one number, in 16 bits
pub record AreLowBackward (d : List CostPair) (sums : List ℕ) : Type 0 where
  pub less : ℕ
  pub are : AreBackward d (raised less sums)
  pub small : (n : ℕ) → n < 64 → slice_index sums n < 2 ^ 16

-- the cost of a path if each start has a cost of its own
abbrev pub with_start : List ℕ → List CostPair → List Bool → ℕ
with_start first c p = slice_index first (weight (take 6 p)) + total c p

-- m is the least such cost of the paths over the steps c that end in state n
pub record LeastInto (first : List ℕ) (c : List CostPair) (n m : ℕ) : Type 0 where
  pub path : List Bool
  pub is_path : IsPath None c path
  pub ends : drop (length c) path ≡ register n
  pub is : with_start first c path ≡ m
  pub least : (q : List Bool) → IsPath None c q → drop (length c) q ≡ register n → m ≤ with_start first c q

-- these are the least such costs to each state
abbrev pub AreForward : List ℕ → List CostPair → List ℕ → Type 0
AreForward first c sums = (n : ℕ) → n < 64 → LeastInto first c n (slice_index sums n)

-- more than any path of a window costs
abbrev pub far : ℕ
far = 2 ^ 30

-- the costs of the starts: 0 for an allowed start, `far` for the others
abbrev pub AreStartCosts : StartState → List ℕ → Type 0
AreStartCosts Zero first = (slice_index first 0 ≡ 0) × ((n : ℕ) → 0 < n → n < 64 → slice_index first n ≡ far)
AreStartCosts Any first = (n : ℕ) → n < 64 → slice_index first n ≡ 0

-- m is the least value of f below n
pub record IsLeastOf (f : ℕ → ℕ) (n m : ℕ) : Type 0 where
  pub place : ℕ
  pub within : place < n
  pub is : f place ≡ m
  pub least : (k : ℕ) → k < n → m ≤ f k

-- these are the least totals to each state from any start, less one number, in 16 bits
pub record AreLowForward (c : List CostPair) (sums : List ℕ) : Type 0 where
  pub less : ℕ
  pub first : List ℕ
  pub starts : AreStartCosts Any first
  pub are : AreForward first c (raised less sums)
  pub small : (n : ℕ) → n < 64 → slice_index sums n < 2 ^ 16

-- m is how far the least sums through the states with the newest bit 0 and 1 are apart
pub record IsApart (before behind : List ℕ) (m : ℕ) : Type 0 where
  pub zero : ℕ
  pub one : ℕ
  pub least_zero : IsLeastOf (λ k. slice_index before (k + 0) + slice_index behind (k + 0)) 32 zero
  pub least_one : IsLeastOf (λ k. slice_index before (k + 32) + slice_index behind (k + 32)) 32 one
  pub is : m ≡ abs_diff zero one

-- row t
abbrev pub row : List (List ℕ) → ℕ → List ℕ
row rows t = slice_index_or rows t []

-- the rows below n are the backward sums, from the end of the window to the step after each row's own, less a number
abbrev pub AreRows : List CostPair → ℕ → List (List ℕ) → Type 0
AreRows c n rows = (t : ℕ) → t < n → AreLowBackward (drop (t + 1) c) (row rows t)

-- the margins of the first n steps of window c were appended
pub record Appended (a : Option (List Bool)) (c : List CostPair) (n : ℕ) (old new : List ℕ) : Type 0 where
  pub more : List ℕ
  pub is : new ≡ old ++ more
  pub long : length more ≡ n
  pub each : (t : ℕ) → t < n → IsMargin a c t (slice_index more t)

-- The first n steps of window c are done: these are the sums before the next step, and the margins were appended.
pub record Passed (s : StartState) (c : List CostPair) (n : ℕ) (before old new : List ℕ) : Type 0 where
  pub first : List ℕ
  pub starts : AreStartCosts s first
  pub forward : AreForward first (take n c) before
  pub appended : Appended (start_of s) c n old new

-- the same from some start
pub record HavePassed (c : List CostPair) (n : ℕ) (before new : List ℕ) : Type 0 where
  pub start : StartState
  pub old : List ℕ
  pub passed : Passed start c n before old new
