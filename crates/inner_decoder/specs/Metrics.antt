-- The path metrics of a decoder.
use Rattle.std.specs.Prelude.{◌≡◌, ℕ, ◌+◌, ◌-◌, ◌*◌, ◌/◌, ◌%◌, ◌^◌, ◌<◌, ◌≤◌, ◌==◌, Bool, List, slice_index, IsTrue}
use Rattle.std.specs.Prelude.{◌⊎◌}
use Rattle.std.specs.declared.option.Option.{Option}
use Rattle.std.specs.declared.option.Option.TheVariants.{None, Some}
use Rattle.code_paths.specs.States.{register}
use Rattle.acs_plain.specs.Steps.{alive}
use Rattle.acs_plain.specs.declared.sums.Sums.{Sums}

-- Sums never wrap, however long the stream. This holds for a part after any number of steps from its start. Fewer than
-- six steps after one register r, the alive states are those whose lowest bits are what is left of r: one bit fewer
-- after each step. From six steps on all 64 are alive, as they always are in a part that began with all registers.
-- Alive states that agree in their lowest 6 - k bits differ by at most the cost of k steps, each at most 8190; so no
-- two differ by more than 49,140.
pub record NeverWrap (start : Option (List Bool)) (steps : ℕ) (sums : Sums) : Type 0 where
  pub early : (r : ℕ) → r < 64 → start ≡ Some (register r) → steps < 6 → (n : ℕ) → n < 64 → alive sums n
      ≡ (n % 2 ^ (6 - steps) == r / 2 ^ steps)
  pub later : 6 ≤ steps → (n : ℕ) → n < 64 → IsTrue (alive sums n)
  pub free : start ≡ None → (n : ℕ) → n < 64 → IsTrue (alive sums n)
  pub close : (k : ℕ) → k ≤ 6 → (m n : ℕ) → m < 64 → n < 64 → IsTrue (alive sums m) → IsTrue (alive sums n)
      → m % 2 ^ (6 - k) ≡ n % 2 ^ (6 - k) → slice_index sums.cost m ≤ slice_index sums.cost n + 8190 * k

-- the alive state of least cost; among equals, the lowest one
pub record IsBest (sums : Sums) (e : ℕ) : Type 0 where
  pub below : e < 64
  pub lives : IsTrue (alive sums e)
  pub least : (n : ℕ) → n < 64 → IsTrue (alive sums n) → (slice_index sums.cost e < slice_index sums.cost n)
      ⊎ ((slice_index sums.cost e ≡ slice_index sums.cost n) × (e ≤ n))
