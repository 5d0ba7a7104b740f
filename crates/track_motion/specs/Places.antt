-- The places around symbol m: place p is symbol m + p - 7. A file may have places 0 to 14, never 15.
use Rattle.std.specs.Prelude.{◌≡◌, ℕ, ◌+◌, ◌-◌, ◌<◌, ◌≤◌, min, nat_le, nat_lt, ◌&&◌, Bool, true, List, get_or}
use Rattle.tracking.specs.BadSymbols.{lesser_change}
use Rattle.tracking.specs.Comb.{Comb, change}
use Rattle.tracking.specs.InTime.{symbol_at}

-- the first place in a file
abbrev pub first_place : ℕ → ℕ
first_place m = 7 - m

-- the place after the last one in a file of `count` symbols
abbrev pub end_place : ℕ → ℕ → ℕ
end_place count m = min 8 (count - m) + 7

-- whether a file of `count` symbols has the place
abbrev pub in_file : ℕ → ℕ → ℕ → Bool
in_file count m p = nat_le (first_place m) p && nat_lt p (end_place count m)

-- the changes of the symbols around symbol m from those before them, by place
pub record HasChanges (c : Comb) (m : ℕ) (changes : List ℕ) : Type 0 where
  pub is : (p : ℕ) → first_place m < p → p < end_place c.count m → get_or changes p 0 ≡ change c (symbol_at m p)

-- the changes to their nearer neighbours
pub record HasLesser (c : Comb) (m : ℕ) (lesser : List ℕ) : Type 0 where
  pub is : (p : ℕ) → first_place m ≤ p → p < end_place c.count m → get_or lesser p 0 ≡ lesser_change c m (symbol_at m p)
