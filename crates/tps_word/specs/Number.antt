-- Fields by their numbers, as the code reads them. The definition of `read` uses the digits of the standard.
use Rattle.std.specs.Prelude.{ℕ, ◌+◌, ◌*◌, ◌==◌, Bool, List, [], ◌∷◌, if◌then◌else◌, Option, Some, None}
use Rattle.mode_set.specs.declared.modes.Mode.{Mode}
use Rattle.mode_set.specs.declared.modes.Mode.TheVariants.{M2k, M8k}
use Rattle.mode_set.specs.declared.modes.Shape.{Shape}
use Rattle.mode_set.specs.declared.modes.Shape.TheVariants.{Qpsk, Qam16, Qam64}
use Rattle.mode_set.specs.declared.modes.Hierarchy.{Hierarchy}
use Rattle.mode_set.specs.declared.modes.Hierarchy.TheVariants.{Flat, Alpha1, Alpha2, Alpha4}
use Rattle.mode_set.specs.declared.modes.Rate.{Rate}
use Rattle.mode_set.specs.declared.modes.Rate.TheVariants.{R1of2, R2of3, R3of4, R5of6, R7of8}
use Rattle.mode_set.specs.declared.modes.Guard.{Guard}
use Rattle.mode_set.specs.declared.modes.Guard.TheVariants.{G1of32, G1of16, G1of8, G1of4}

-- n followed by these binary digits
abbrev pub number_behind : ℕ → List Bool → ℕ
number_behind n [] = n
number_behind n (b ∷ bits) = number_behind (2 * n + (if b then 1 else 0)) bits

-- the number with these binary digits, most significant first
abbrev pub number_of : List Bool → ℕ
number_of bits = number_behind 0 bits

-- the constellation signalled by a number, if any
abbrev pub shape_numbered : ℕ → Option Shape
shape_numbered n = if n == 0 then Some Qpsk else (if n == 1 then Some Qam16 else (if n == 2 then Some Qam64 else None))

-- the hierarchy signalled by a number, if any
abbrev pub hierarchy_numbered : ℕ → Option Hierarchy
hierarchy_numbered n = if n == 0 then Some Flat else (if n == 1 then Some Alpha1 else
    (if n == 2 then Some Alpha2 else (if n == 3 then Some Alpha4 else None)))

-- the code rate signalled by a number, if any
abbrev pub rate_numbered : ℕ → Option Rate
rate_numbered n = if n == 0 then Some R1of2 else (if n == 1 then Some R2of3 else
    (if n == 2 then Some R3of4 else (if n == 3 then Some R5of6 else (if n == 4 then Some R7of8 else None))))

-- the guard interval signalled by a number, if any
abbrev pub guard_numbered : ℕ → Option Guard
guard_numbered n = if n == 0 then Some G1of32 else (if n == 1 then Some G1of16 else
    (if n == 2 then Some G1of8 else (if n == 3 then Some G1of4 else None)))

-- the mode signalled by a number, if any
abbrev pub mode_numbered : ℕ → Option Mode
mode_numbered n = if n == 0 then Some M2k else (if n == 1 then Some M8k else None)
