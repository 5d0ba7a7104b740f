-- A stream of costs always defines bits and reports.
use Rattle.std.specs.Prelude.{◌≡◌, ℕ, Bool, List, length, ⊤}
use Rattle.std.specs.declared.option.Option.{Option}
use Rattle.std.specs.declared.option.Option.TheVariants.{None, Some}
use Rattle.code_paths.specs.declared.costs.CostPair.{CostPair}
use Rattle.code_paths.specs.Streams.{Given, Ended, Reports}

-- the register before the first step is free, or has six bits
abbrev pub IsStart : Option (List Bool) → Type 0
IsStart None = ⊤
IsStart (Some r) = length r ≡ 6

-- the bits given exist
abbrev pub SomeAreGiven : Type 0
SomeAreGiven = (most : ℕ) (a : Option (List Bool)) (c : List CostPair) → IsStart a → (g : List Bool) × Given most a c g

-- the bits at the end exist
abbrev pub SomeAreEnded : Type 0
SomeAreEnded = (most : ℕ) (a : Option (List Bool)) (c : List CostPair) → IsStart a → (g : List Bool) × Ended most a c g

-- the reports exist, perhaps none
abbrev pub SomeAreReported : Type 0
SomeAreReported = (most : ℕ) (a : Option (List Bool)) (c : List CostPair) → IsStart a → (rs : List ℕ)
    × Reports most a c rs
