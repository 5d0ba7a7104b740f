-- Hard decisions: the value of an axis nearest to the received one (EN 300 744, 4.3.5; ties are this project's
-- profile).
use Rattle.std.specs.Prelude.{ℕ, ◌/◌, nat_lt, ◌==◌, ◌&&◌, ◌||◌, Bool, false, Option, find, ℤ, int_le}
use Rattle.std.specs.List.{list_all}
use Rattle.std.specs.Option.{option_map_or}
use Rattle.spec_words.specs.Bits.{bit}
use Rattle.mode_set.specs.declared.modes.Shape.{Shape}
use Rattle.mode_set.specs.declared.modes.Hierarchy.{Hierarchy}
use Rattle.qam_map.specs.Points.{Point, points, distance, on_axis}
use Rattle.qam_map.specs.declared.cell.Cell.{Cell}

-- p is nearer to x than r, or as near and not less than r
abbrev pub is_preferred : ℤ → Point → Point → Bool
is_preferred x p r = nat_lt (distance x p.value) (distance x r.value)
    || ((distance x p.value == distance x r.value) && int_le r.value p.value)

-- the point of an axis nearest to x; of two the greater
unfoldable pub nearest : Shape → Hierarchy → ℤ → Option Point
nearest s h x = find (λ p. list_all (is_preferred x p) (points s h)) (points s h)

-- bit i of the point nearest to x, sign first
abbrev pub axis_bit : Shape → Hierarchy → ℤ → ℕ → Bool
axis_bit s h x i = option_map_or (λ (p : Point). bit p.label i) (nearest s h x) false

-- the hard decision for label bit e: that bit of the point nearest to the cell on its axis
unfoldable pub hard_bit : Shape → Hierarchy → Cell → ℕ → Bool
hard_bit s h cell e = axis_bit s h (on_axis cell e) (e / 2)
