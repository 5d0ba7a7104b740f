-- Path metrics that a step keeps close together.
use Rattle.std.specs.Prelude.{◌≡◌, ℕ, ◌+◌, ◌-◌, ◌*◌, ◌%◌, ◌^◌, ◌<◌, ◌≤◌, ◌==◌, slice_index, IsTrue}
use Rattle.acs_plain.specs.Steps.{alive}
use Rattle.acs_plain.specs.declared.sums.Sums.{Sums}

-- The alive states are those with the same lowest bits. All six bits are fixed at the start of a part from one
-- register, one fewer after each step, and none from six steps on. Alive states that agree in their lowest 6 - k bits
-- differ by at most the cost of k steps, each at most 8190; so no two differ by more than 49,140. Each step preserves
-- this.
pub record IsSpread (sums : Sums) : Type 0 where
  pub fixed : ℕ
  pub start : ℕ
  pub few : fixed < 7
  pub small : start < 2 ^ fixed
  pub lives : (n : ℕ) → n < 64 → alive sums n ≡ (n % 2 ^ fixed == start)
  pub close : (k : ℕ) → k ≤ 6 → (m n : ℕ) → m < 64 → n < 64 → IsTrue (alive sums m) → IsTrue (alive sums n)
      → m % 2 ^ (6 - k) ≡ n % 2 ^ (6 - k) → slice_index sums.cost m ≤ slice_index sums.cost n + 8190 * k
