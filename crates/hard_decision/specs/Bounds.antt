-- The midpoints between the levels of an axis, doubled.
use Rattle.std.specs.Prelude.{ℕ, ◌+◌, List, slice_index}
use Rattle.mode_set.specs.declared.modes.Shape.{Shape}
use Rattle.mode_set.specs.declared.modes.Shape.TheVariants.{Qpsk, Qam16, Qam64}

-- twice the midpoint of level k, counted from the outermost, and the next one
abbrev pub middle : List ℕ → ℕ → ℕ
middle levels k = slice_index levels k + slice_index levels (k + 1)

-- the outer bit is set below the first bound, the inner one from the second to below the third
abbrev pub bounds : Shape → List ℕ → ℕ × ℕ × ℕ
bounds Qpsk levels = (0, 0, 0)
bounds Qam16 levels = (middle levels 0, 0, 0)
bounds Qam64 levels = (middle levels 1, middle levels 2, middle levels 0)
