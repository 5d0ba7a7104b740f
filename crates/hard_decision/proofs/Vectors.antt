-- Worked values of the definitions: at the middles between levels, and beside them.
use Rattle.std.proofs.Common.{◌≡◌, Bool, true, false, List, [], ◌∷◌, refl, Some}
use Rattle.std.specs.Prelude.{ℤ, pos, neg_ℤ}
use Rattle.mode_set.specs.declared.modes.Shape.{Shape}
use Rattle.mode_set.specs.declared.modes.Shape.TheVariants.{Qpsk, Qam16, Qam64}
use Rattle.mode_set.specs.declared.modes.Hierarchy.{Hierarchy}
use Rattle.mode_set.specs.declared.modes.Hierarchy.TheVariants.{Flat, Alpha1, Alpha2, Alpha4}
use Rattle.hard_decision.specs.Hard.{nearest}

-- the nearest point to x has this label and this value
abbrev Is : Shape → Hierarchy → ℤ → List Bool → ℤ → Type 0
Is s h x label value = nearest s h x ≡ Some (record { label = label; value = value })

zero_is_positive : Is Qpsk Flat (pos 0) (false ∷ []) (pos 11585)
unfolding nearest
zero_is_positive = refl

below_zero : Is Qpsk Flat (neg_ℤ (pos 1)) (true ∷ []) (neg_ℤ (pos 11585))
unfolding nearest
below_zero = refl

tie_goes_out : Is Qam16 Flat (pos 10362) (false ∷ false ∷ []) (pos 15543)
unfolding nearest
tie_goes_out = refl

below_the_tie : Is Qam16 Flat (pos 10361) (false ∷ true ∷ []) (pos 5181)
unfolding nearest
below_the_tie = refl

negative_tie_goes_in : Is Qam16 Flat (neg_ℤ (pos 10362)) (true ∷ true ∷ []) (neg_ℤ (pos 5181))
unfolding nearest
negative_tie_goes_in = refl

below_the_negative_tie : Is Qam16 Flat (neg_ℤ (pos 10363)) (true ∷ false ∷ []) (neg_ℤ (pos 15543))
unfolding nearest
below_the_negative_tie = refl

above_an_odd_middle : Is Qam16 Alpha2 (pos 10991) (false ∷ false ∷ []) (pos 14654)
unfolding nearest
above_an_odd_middle = refl

below_an_odd_middle : Is Qam16 Alpha2 (pos 10990) (false ∷ true ∷ []) (pos 7327)
unfolding nearest
below_an_odd_middle = refl

tie_by_four : Is Qam16 Alpha4 (pos 11360) (false ∷ false ∷ []) (pos 13632)
unfolding nearest
tie_by_four = refl

negative_tie_by_four : Is Qam16 Alpha4 (neg_ℤ (pos 11360)) (true ∷ true ∷ []) (neg_ℤ (pos 9088))
unfolding nearest
negative_tie_by_four = refl

outer_tie : Is Qam64 Flat (pos 15169) (false ∷ false ∷ false ∷ []) (pos 17697)
unfolding nearest
outer_tie = refl

below_the_outer_tie : Is Qam64 Flat (pos 15168) (false ∷ false ∷ true ∷ []) (pos 12641)
unfolding nearest
below_the_outer_tie = refl

above_the_middle_two : Is Qam64 Flat (pos 10113) (false ∷ false ∷ true ∷ []) (pos 12641)
unfolding nearest
above_the_middle_two = refl

below_the_middle_two : Is Qam64 Flat (pos 10112) (false ∷ true ∷ true ∷ []) (pos 7584)
unfolding nearest
below_the_middle_two = refl

inner_tie : Is Qam64 Flat (pos 5056) (false ∷ true ∷ true ∷ []) (pos 7584)
unfolding nearest
inner_tie = refl

below_the_inner_tie : Is Qam64 Flat (pos 5055) (false ∷ true ∷ false ∷ []) (pos 2528)
unfolding nearest
below_the_inner_tie = refl

negative_inner_tie : Is Qam64 Flat (neg_ℤ (pos 5056)) (true ∷ true ∷ false ∷ []) (neg_ℤ (pos 2528))
unfolding nearest
negative_inner_tie = refl

below_the_negative_inner_tie : Is Qam64 Flat (neg_ℤ (pos 5057)) (true ∷ true ∷ true ∷ []) (neg_ℤ (pos 7584))
unfolding nearest
below_the_negative_inner_tie = refl

negative_outer_tie : Is Qam64 Alpha1 (neg_ℤ (pos 15169)) (true ∷ false ∷ true ∷ []) (neg_ℤ (pos 12641))
unfolding nearest
negative_outer_tie = refl

outer_tie_by_two : Is Qam64 Alpha2 (pos 14806) (false ∷ false ∷ false ∷ []) (pos 16921)
unfolding nearest
outer_tie_by_two = refl

middle_tie_by_two : Is Qam64 Alpha2 (neg_ℤ (pos 10576)) (true ∷ true ∷ true ∷ []) (neg_ℤ (pos 8461))
unfolding nearest
middle_tie_by_two = refl

outer_tie_by_four : Is Qam64 Alpha4 (pos 14189) (false ∷ false ∷ false ∷ []) (pos 15766)
unfolding nearest
outer_tie_by_four = refl

least_value : Is Qam64 Alpha4 (neg_ℤ (pos 32768)) (true ∷ false ∷ false ∷ []) (neg_ℤ (pos 15766))
unfolding nearest
least_value = refl

greatest_value : Is Qam64 Alpha4 (pos 32767) (false ∷ false ∷ false ∷ []) (pos 15766)
unfolding nearest
greatest_value = refl
