-- The symbols that a window has received.
use Rattle.std.specs.Prelude.{◌≡◌, ℕ, ◌+◌, ◌*◌, ◌/◌, ◌%◌, ◌^◌, ◌<◌, ◌≤◌, List, length, get_or}
use Rattle.mode_set.specs.declared.modes.Mode.{Mode}
use Rattle.qam_map.specs.declared.cell.Cell.{Cell}
use Rattle.tracking.specs.Comb.{comb_of, points}
use Rattle.track_arithmetic.specs.Laws.{IsWithin}
use Rattle.track_arithmetic.specs.Numbers.{nothing}
use Rattle.track_arithmetic.specs.declared.complex.Complex.{Complex}

-- the visible state of a window: the number of symbols received, and its sixteen rows
pub record WindowState : Type 0 where
  pub count : ℕ
  pub rows : List Complex

-- sixteen rows of points, one for every third carrier; each value is that of a cell or its opposite
pub record HasRows (carriers : ℕ) (rows : List Complex) (count : ℕ) : Type 0 where
  pub long : length rows ≡ 16 * ((carriers + 2) / 3)
  pub small : (i : ℕ) → i < length rows → IsWithin (2 ^ 15) (get_or rows i nothing)
  pub few : count ≤ 2 ^ 32

-- the rows hold the values of the last sixteen symbols, symbol t in row t modulo 16
pub record StandsFor (m : Mode) (w : WindowState) (symbols : List (List Cell)) : Type 0 where
  pub number : w.count ≡ length symbols
  pub kept : (t j : ℕ) → t < length symbols → length symbols ≤ t + 16 → j < points m
      → get_or w.rows ((t % 16) * points m + j) nothing ≡ (comb_of m symbols).value t j
