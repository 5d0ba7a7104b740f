-- The constellations: labels, levels of an axis, and cells (EN 300 744, 4.3.5).
use Rattle.std.specs.Prelude.{◌≡◌, ℕ, ◌+◌, ◌-◌, ◌*◌, ◌/◌, ◌%◌, ◌^◌, ◌<◌, ◌==◌, Bool, true, false, List, [], ◌∷◌, ◌++◌}
use Rattle.std.specs.Prelude.{length, map, filter, find, flat_map, zip, sum, reverse, take, slice_index, nat_lt, ℤ, pos}
use Rattle.std.specs.Prelude.{◌-ℤ◌, neg_ℤ, nat_abs, if◌then◌else◌}
use Rattle.std.specs.Bool.{beq}
use Rattle.std.specs.List.{position_or_len}
use Rattle.std.specs.Option.{option_map_or}
use lib.Pointwise.{pointwise}
use Rattle.spec_words.specs.Words.{numbers, least}
use Rattle.mode_set.specs.Levels.{alpha, levels}
use Rattle.mode_set.specs.StreamTable.{label_bits}
use Rattle.mode_set.specs.declared.modes.Shape.{Shape}
use Rattle.mode_set.specs.declared.modes.Shape.TheVariants.{Qpsk, Qam16, Qam64}
use Rattle.mode_set.specs.declared.modes.Hierarchy.{Hierarchy}
use Rattle.qam_map.specs.declared.cell.Cell.{Cell}

-- the bits after the sign, from the outermost magnitude to the innermost
abbrev pub magnitudes : Shape → List (List Bool)
magnitudes Qpsk = [] ∷ []
magnitudes Qam16 = (false ∷ []) ∷ (true ∷ []) ∷ []
magnitudes Qam64 = (false ∷ false ∷ []) ∷ (false ∷ true ∷ []) ∷ (true ∷ true ∷ []) ∷ (true ∷ false ∷ []) ∷ []

-- the index of the level, outermost first, that the bits after the sign select
abbrev pub ring_of : Shape → Bool → Bool → ℕ
ring_of s outer inner = position_or_len (λ m. pointwise beq m (take (label_bits s / 2 - 1) (outer ∷ inner ∷ [])))
    (magnitudes s)

-- a value of an axis, and the label bits that select it, sign first
pub record Point : Type 0 where
  pub label : List Bool
  pub value : ℤ

-- the points of an axis; sign 0 is positive
abbrev pub points : Shape → Hierarchy → List Point
points s h = let positive = zip (magnitudes s) (levels s h) in
    map (λ p. record { label = false ∷ p.0; value = pos p.1 }) positive
    ++ map (λ p. record { label = true ∷ p.0; value = neg_ℤ (pos p.1) }) positive

-- the value that label bits select on an axis
abbrev pub value_of : Shape → Hierarchy → List Bool → ℤ
value_of s h y = option_map_or (λ (p : Point). p.value) (find (λ p. pointwise beq p.label y) (points s h)) (pos 0)

-- the label bits of the real axis, y0 y2 y4
abbrev pub real_bits : Shape → (ℕ → Bool) → List Bool
real_bits s y = map (λ i. y (2 * i)) (numbers (label_bits s / 2))

-- the label bits of the imaginary axis, y1 y3 y5
abbrev pub imaginary_bits : Shape → (ℕ → Bool) → List Bool
imaginary_bits s y = map (λ i. y (2 * i + 1)) (numbers (label_bits s / 2))

-- the cell of a label
abbrev pub map_cell : Shape → Hierarchy → (ℕ → Bool) → Cell
map_cell s h y = record { re = value_of s h (real_bits s y); im = value_of s h (imaginary_bits s y) }

-- the value of a cell on the axis of label bit e
abbrev pub on_axis : Cell → ℕ → ℤ
on_axis c e = if e % 2 == 0 then c.re else c.im

-- the distance of two values of an axis
abbrev pub distance : ℤ → ℤ → ℕ
distance x n = nat_abs (x -ℤ n)

-- the least distance between two values of an axis
abbrev pub spacing : Shape → Hierarchy → ℕ
spacing s h = let values = map (λ (p : Point). p.value) (points s h) in
    least (filter (λ d. nat_lt 0 d) (flat_map (λ x. map (distance x) values) values))

-- how far a cell may be from its point on each axis
abbrev pub tolerance : Shape → Hierarchy → ℕ
tolerance s h = spacing s h / 4

-- the standard's levels, integers from innermost to outermost: α, α + 2, ..
abbrev pub amplitudes : Shape → Hierarchy → List ℕ
amplitudes s h = map (λ i. alpha h + 2 * i) (numbers (length (levels s h)))

-- the standard's norm: the mean of a² over both axes
abbrev pub norm : Shape → Hierarchy → ℕ
norm s h = 2 * sum (map (λ a. a ^ 2) (amplitudes s h)) / length (levels s h)

-- a value is the integer nearest to 16384 a / √N
pub record IsNearest (norm a n : ℕ) : Type 0 where
  pub above : (2 * n - 1) ^ 2 * norm < 4 * 16384 ^ 2 * a ^ 2
  pub below : 4 * 16384 ^ 2 * a ^ 2 < (2 * n + 1) ^ 2 * norm

-- each level is the value nearest to the standard's level; QPSK has α = 1
abbrev pub LevelsAreNearest : Type 0
LevelsAreNearest = (s : Shape) (h : Hierarchy) (k : ℕ) → (s ≡ Qpsk → alpha h ≡ 1) → k < length (levels s h) →
    IsNearest (norm s h) (slice_index (amplitudes s h) k) (slice_index (reverse (levels s h)) k)
