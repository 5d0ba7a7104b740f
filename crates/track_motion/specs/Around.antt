-- The known facts on the symbols around a symbol.
use Rattle.std.specs.Prelude.{◌≡◌, ℕ, ◌<◌, ◌≤◌, ◌^◌, true, false, get_or}
use Rattle.tracking.specs.BadSymbols.{middle}
use Rattle.tracking.specs.Comb.{Comb, turn}
use Rattle.tracking.specs.InTime.{symbol_at, is_good, is_there}
use Rattle.track_arithmetic.specs.Laws.{IsWithin}
use Rattle.track_arithmetic.specs.Numbers.{nothing}
use Rattle.track_motion.specs.Places.{in_file}
use Rattle.track_motion.specs.declared.surroundings.Surroundings.{Surroundings}

-- the places that the file has, and bounds
pub record IsLook (count m : ℕ) (x : Surroundings) : Type 0 where
  pub there : (p : ℕ) → p < 16 → get_or x.there p false ≡ in_file count m p
  pub good : (p : ℕ) → p < 16 → get_or x.good p false ≡ true → in_file count m p ≡ true
  pub turns : (p : ℕ) → p < 16 → IsWithin (2 ^ 14) (get_or x.turns p nothing)
  pub small : x.middle ≤ 2 ^ 44

-- these facts are those of the definitions
pub record IsAround (c : Comb) (m : ℕ) (x : Surroundings) : Type 0 where
  pub there : (p : ℕ) → p < 16 → get_or x.there p false ≡ is_there c m p
  pub good : (p : ℕ) → p < 16 → get_or x.good p false ≡ is_good c m p
  pub turns : (p : ℕ) → p < 16 → is_there c m p ≡ true → get_or x.turns p nothing ≡ turn c m (symbol_at m p)
  pub middle : x.middle ≡ middle c m
