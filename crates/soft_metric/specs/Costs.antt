-- The costs of the two values of a coded bit, from the cell that carries it. The costs are this project's own.
use Rattle.std.specs.Prelude.{◌≡◌, ℕ, ◌+◌, ◌/◌, ◌^◌, ◌<◌, ◌≤◌, min, Bool, true, false, not, List, [], ◌∷◌, map, filter}
use Rattle.std.specs.Prelude.{ℤ}
use Rattle.std.specs.Bool.{beq}
use Rattle.spec_words.specs.Bits.{bit}
use Rattle.spec_words.specs.Words.{least}
use Rattle.mode_set.specs.StreamTable.{label_bits}
use Rattle.mode_set.specs.declared.modes.Shape.{Shape}
use Rattle.mode_set.specs.declared.modes.Hierarchy.{Hierarchy}
use Rattle.qam_map.specs.Points.{Point, points, distance, on_axis, map_cell, tolerance}
use Rattle.qam_map.specs.declared.cell.Cell.{Cell}

-- the points of an axis whose label has b as bit e of the cell's label
abbrev pub fitting : Shape → Hierarchy → ℕ → Bool → List Point
fitting s h e b = filter (λ p. beq (bit p.label (e / 2)) b) (points s h)

-- the least squared distance from a value to one of the points
abbrev pub least_square : ℤ → List Point → ℕ
least_square x ps = least (map (λ p. distance x p.value ^ 2) ps)

-- the cost of value b for label bit e, if the cell is x on that bit's axis
unfoldable pub cost : Shape → Hierarchy → ℤ → ℕ → Bool → ℕ
cost s h x e b = min 4095 (least_square x (fitting s h e b) / 2 ^ 18)

-- the costs of values 0 and 1 for label bit e of a cell
abbrev pub costs_at_place : Shape → Hierarchy → Cell → ℕ → ℕ × ℕ
costs_at_place s h cell e = (cost s h (on_axis cell e) e false, cost s h (on_axis cell e) e true)

-- a cell is close to a point on both axes
pub record IsNear (s : Shape) (h : Hierarchy) (point cell : Cell) : Type 0 where
  pub re : distance cell.re point.re ≤ tolerance s h
  pub im : distance cell.im point.im ≤ tolerance s h

-- close to the point of a label, each bit of the label costs at least 15 less than its complement
abbrev pub NearPointsFavourTheirBits : Type 0
NearPointsFavourTheirBits = (s : Shape) (h : Hierarchy) (y : ℕ → Bool) (cell : Cell) (e : ℕ) → e < label_bits s
    → IsNear s h (map_cell s h y) cell
    → cost s h (on_axis cell e) e (y e) + 15 ≤ cost s h (on_axis cell e) e (not (y e))

-- at the point of a label, each bit of the label costs 0 and its complement at least 1
abbrev pub ExactPointsCostNothing : Type 0
ExactPointsCostNothing = (s : Shape) (h : Hierarchy) (y : ℕ → Bool) (e : ℕ) → e < label_bits s
    → (cost s h (on_axis (map_cell s h y) e) e (y e) ≡ 0) × (1 ≤ cost s h (on_axis (map_cell s h y) e) e (not (y e)))

-- four levels: with one or two levels, each is repeated for the bits that select none
abbrev pub four_levels : List ℕ → List ℕ
four_levels [] = []
four_levels (a ∷ []) = a ∷ a ∷ a ∷ a ∷ []
four_levels (a ∷ b ∷ []) = a ∷ a ∷ b ∷ b ∷ []
four_levels (a ∷ b ∷ c ∷ ls) = a ∷ b ∷ c ∷ ls
