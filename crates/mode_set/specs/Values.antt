-- The allowed values of each key in a settings document.
use Rattle.std.specs.Prelude.{codes, ℕ, ℤ, pos, ◌&&◌, if◌then◌else◌, nat_le, List, [], ◌∷◌, Option, Some, None}
use Rattle.std.specs.Prelude.{option_map, option_and_then, find, bytes_eq}
use Rattle.toml.specs.Data.{Data, as_str, as_integer}
use Rattle.mode_set.specs.declared.modes.Mode.{Mode}
use Rattle.mode_set.specs.declared.modes.Mode.TheVariants.{M2k, M8k}
use Rattle.mode_set.specs.declared.modes.Shape.{Shape}
use Rattle.mode_set.specs.declared.modes.Shape.TheVariants.{Qpsk, Qam16, Qam64}
use Rattle.mode_set.specs.declared.modes.Hierarchy.{Hierarchy}
use Rattle.mode_set.specs.declared.modes.Hierarchy.TheVariants.{Flat, Alpha1, Alpha2, Alpha4}
use Rattle.mode_set.specs.declared.modes.Rate.{Rate}
use Rattle.mode_set.specs.declared.modes.Rate.TheVariants.{R1of2, R2of3, R3of4, R5of6, R7of8}
use Rattle.mode_set.specs.declared.modes.Guard.{Guard}
use Rattle.mode_set.specs.declared.modes.Guard.TheVariants.{G1of32, G1of16, G1of8, G1of4}
use Rattle.mode_set.specs.declared.modes.Start.{Start}
use Rattle.mode_set.specs.declared.modes.Start.TheVariants.{Zero, Any}

-- the names of the modes
abbrev pub mode_words : List (List ℕ × Mode)
mode_words = (codes "2k", M2k) ∷ (codes "8k", M8k) ∷ []

-- the names of the constellations
abbrev pub shape_words : List (List ℕ × Shape)
shape_words = (codes "qpsk", Qpsk) ∷ (codes "16qam", Qam16) ∷ (codes "64qam", Qam64) ∷ []

-- the names of the hierarchies
abbrev pub hierarchy_words : List (List ℕ × Hierarchy)
hierarchy_words = (codes "none", Flat) ∷ (codes "1", Alpha1) ∷ (codes "2", Alpha2) ∷ (codes "4", Alpha4) ∷ []

-- the names of the code rates
abbrev pub rate_words : List (List ℕ × Rate)
rate_words = (codes "1/2", R1of2) ∷ (codes "2/3", R2of3) ∷ (codes "3/4", R3of4) ∷ (codes "5/6", R5of6)
    ∷ (codes "7/8", R7of8) ∷ []

-- the names of the guard intervals
abbrev pub guard_words : List (List ℕ × Guard)
guard_words = (codes "1/32", G1of32) ∷ (codes "1/16", G1of16) ∷ (codes "1/8", G1of8) ∷ (codes "1/4", G1of4) ∷ []

-- the names of the starts
abbrev pub start_words : List (List ℕ × Start)
start_words = (codes "zero", Zero) ∷ (codes "any", Any) ∷ []

-- the choice of a text in a table
abbrev pub chosen : {T : Type 0} → List (List ℕ × T) → List ℕ → Option T
chosen words text = option_map (λ word. word.1) (find (λ word. bytes_eq text word.0) words)

-- a string that is in the table
abbrev pub a_word : {T : Type 0} → List (List ℕ × T) → Data → Option T
a_word words d = option_and_then (chosen words) (as_str d)

-- an integer from `least` to `most`
abbrev pub in_range : ℕ → ℕ → ℤ → Option ℕ
in_range least most (pos n) = if nat_le least n && nat_le n most then Some n else None
in_range least most _ = None

-- an integer in this range
abbrev pub a_number : ℕ → ℕ → Data → Option ℕ
a_number least most d = option_and_then (in_range least most) (as_integer d)
