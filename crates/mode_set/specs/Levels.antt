-- The levels of each axis of a constellation, in this project's fixed-point values (EN 300 744, 4.3.5).
use Rattle.std.specs.Prelude.{ℕ, List, [], ◌∷◌}
use Rattle.mode_set.specs.declared.modes.Shape.{Shape}
use Rattle.mode_set.specs.declared.modes.Shape.TheVariants.{Qpsk, Qam16, Qam64}
use Rattle.mode_set.specs.declared.modes.Hierarchy.{Hierarchy}
use Rattle.mode_set.specs.declared.modes.Hierarchy.TheVariants.{Flat, Alpha1, Alpha2, Alpha4}

-- α: the least distance between points of different quadrants, over that between points of one quadrant
abbrev pub alpha : Hierarchy → ℕ
alpha Flat = 1
alpha Alpha1 = 1
alpha Alpha2 = 2
alpha Alpha4 = 4

-- the levels of an axis, outermost first: 16384 a / √N rounded, where a is the standard's level and N its norm
abbrev pub levels : Shape → Hierarchy → List ℕ
levels Qpsk h = 11585 ∷ []
levels Qam16 Flat = 15543 ∷ 5181 ∷ []
levels Qam16 Alpha1 = 15543 ∷ 5181 ∷ []
levels Qam16 Alpha2 = 14654 ∷ 7327 ∷ []
levels Qam16 Alpha4 = 13632 ∷ 9088 ∷ []
levels Qam64 Flat = 17697 ∷ 12641 ∷ 7584 ∷ 2528 ∷ []
levels Qam64 Alpha1 = 17697 ∷ 12641 ∷ 7584 ∷ 2528 ∷ []
levels Qam64 Alpha2 = 16921 ∷ 12691 ∷ 8461 ∷ 4230 ∷ []
levels Qam64 Alpha4 = 15766 ∷ 12612 ∷ 9459 ∷ 6306 ∷ []
