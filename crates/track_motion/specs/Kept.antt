-- The changes of the last symbols, kept from one symbol to the next.
use Rattle.std.specs.Prelude.{◌≡◌, ℕ, ◌+◌, ◌%◌, ◌^◌, ◌<◌, ◌≤◌, List, get_or}
use Rattle.tracking.specs.Comb.{Comb, change}

-- none of the sixteen is greater than a change can be
abbrev pub AreLow : List ℕ → Type 0
AreLow kept = (k : ℕ) → k < 16 → get_or kept k 0 ≤ 2 ^ 44

-- the change of symbol t from the one before it is at place t modulo 16, for the last fifteen symbols of the file
pub record KeepsChanges (c : Comb) (kept : List ℕ) : Type 0 where
  pub is : (t : ℕ) → 1 ≤ t → t < c.count → c.count ≤ t + 15 → get_or kept (t % 16) 0 ≡ change c t

-- the same for those before the last symbol
pub record KeepsBefore (c : Comb) (kept : List ℕ) : Type 0 where
  pub is : (t : ℕ) → 1 ≤ t → t + 1 < c.count → c.count ≤ t + 15 → get_or kept (t % 16) 0 ≡ change c t
