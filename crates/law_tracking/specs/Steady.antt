-- A channel that does not change, and the gain at its comb points.
use Rattle.std.specs.Prelude.{◌≡◌, ℕ, ◌*◌, ◌%◌, ◌<◌, ◌≤◌, true, List, [], length, get_or, pos}
use Rattle.mode_set.specs.StreamTable.{carriers}
use Rattle.mode_set.specs.declared.modes.Guard.{Guard}
use Rattle.mode_set.specs.declared.modes.Mode.{Mode}
use Rattle.pilots.specs.Around.{is_pilot}
use Rattle.pilots.specs.Carriers.{is_scattered}
use Rattle.qam_map.specs.Cells.{cell_of}
use Rattle.qam_map.specs.declared.cell.Cell.{Cell}
use Rattle.tracking.specs.Comb.{points, pilot, comb_of}
use Rattle.tracking.specs.InTime.{point_gain}
use Rattle.track_arithmetic.specs.Numbers.{scaled}

-- each carrier has the same cell in all symbols where it is a pilot; a symbol is numbered in its frame of 68
abbrev pub AreSteady : Mode → List (List Cell) → Type 0
AreSteady mode symbols = (t u k : ℕ) → t < length symbols → u < length symbols → k < carriers mode
    → is_pilot mode (t % 68) k ≡ true → is_pilot mode (u % 68) k ≡ true
    → cell_of (get_or symbols t []) k ≡ cell_of (get_or symbols u []) k

-- Then the gain at a point of any symbol is 16 times the point's value at any symbol where it is a scattered pilot,
-- whether the channel counts as slow or fast. The file has at least four symbols, so each point is a scattered pilot
-- once.
abbrev pub SteadyGainsAreExact : Type 0
SteadyGainsAreExact = (guard : Guard) (mode : Mode) (symbols : List (List Cell)) (m t j : ℕ) → 4 ≤ length symbols
    → AreSteady mode symbols
    → m < length symbols → t < length symbols → j < points mode → is_scattered (t % 68) (3 * j) ≡ true
    → point_gain guard (comb_of mode symbols) m j ≡ scaled (pos 16) (pilot (get_or symbols t []) j)
