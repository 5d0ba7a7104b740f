-- The comb points of a file: every third carrier. All pilots are among them (EN 300 744, 4.5.3 and 4.5.4).
use Rattle.std.specs.Prelude.{ℕ, ◌+◌, ◌-◌, ◌*◌, ◌/◌, ◌==◌, min, nat_le, nat_lt, ◌&&◌, Bool, if◌then◌else◌, List, []}
use Rattle.std.specs.Prelude.{length, filter, get_or, ℤ, neg_ℤ, sum_by}
use Rattle.std.specs.List.{range_with_len}
use Rattle.spec_words.specs.Words.{numbers}
use Rattle.mode_set.specs.StreamTable.{carriers}
use Rattle.mode_set.specs.declared.modes.Mode.{Mode}
use Rattle.pilots.specs.Carriers.{is_continual}
use Rattle.pilots.specs.Reference.{reference}
use Rattle.qam_map.specs.Cells.{cell_of}
use Rattle.qam_map.specs.declared.cell.Cell.{Cell}
use Rattle.track_arithmetic.specs.Numbers.{times, minus, conjugate, power, sum_of, shifted, near, forward, direction}
use Rattle.track_arithmetic.specs.declared.complex.Complex.{Complex}

-- J, the number of comb points in a symbol; point j is carrier 3 j
abbrev pub points : Mode → ℕ
points m = (carriers m + 2) / 3

-- a value as received from a pilot sent as positive (4.5.2)
abbrev pub unturned : Bool → ℤ → ℤ
unturned opposite x = if opposite then neg_ℤ x else x

-- the cell of point j of a symbol, read as a pilot
unfoldable pub pilot : List Cell → ℕ → Complex
pilot cells j = record {
  re = unturned (reference (3 * j)) (cell_of cells (3 * j)).re;
  im
      = unturned (reference (3 * j)) (cell_of cells (3 * j)).im;
}

-- a file at its comb points: the number of its symbols, and the value of point j in symbol t
pub record Comb : Type 0 where
  pub mode : Mode
  pub count : ℕ
  pub value : ℕ → ℕ → Complex

-- the comb of a file, from the cells of its symbols
unfoldable pub comb_of : Mode → List (List Cell) → Comb
comb_of mode symbols = record { mode = mode; count = length symbols; value = λ t j. pilot (get_or symbols t []) j }

-- the points of the continual pilots, rising
unfoldable pub continual_points : Mode → List ℕ
continual_points m = filter (λ j. is_continual m (3 * j)) (numbers (points m))

-- ---- the common phase of two symbols

-- the correlation of the continual pilots of two symbols; its direction is the turn from symbol t to symbol m
unfoldable pub correlation : Comb → ℕ → ℕ → Complex
correlation c m t = shifted 8 (sum_of (λ j. times (c.value m j) (conjugate (c.value t j))) (continual_points c.mode))

-- the turn from symbol t to symbol m, the common phase of all carriers
unfoldable pub turn : Comb → ℕ → ℕ → Complex
turn c m t = if m == t then forward else direction (correlation c m t)

-- a point of symbol t, turned to the phase of symbol m, times 2^14
unfoldable pub turned_value : Comb → ℕ → ℕ → ℕ → Complex
turned_value c m t j = times (c.value t j) (turn c m t)

-- ---- the window of a symbol: the symbols of the file from seven before it to seven after it

-- the end of the window
abbrev pub window_end : Comb → ℕ → ℕ
window_end c m = min c.count (m + 8)

-- the symbols of the window
unfoldable pub window : Comb → ℕ → List ℕ
window c m = range_with_len (m - 7) (window_end c m - (m - 7))

-- symbol t is in the window
abbrev pub is_inside : Comb → ℕ → ℕ → Bool
is_inside c m t = nat_le (m - 7) t && nat_lt t (window_end c m)

-- ---- the change from one symbol to the next

-- the distance of the continual pilots of symbol t from those of the symbol before, turned to its phase
unfoldable pub change : Comb → ℕ → ℕ
change c t = sum_by (λ j. power (minus (c.value t j) (near 14 (turned_value c t (t - 1) j)))) (continual_points c.mode)
