-- Each level is the nearest integer, by computation.
use Rattle.std.proofs.Common.{zero, suc, refl, arith, lit<}
use Rattle.spec_words.specs.Words.{numbers}
use Rattle.mode_set.specs.declared.modes.Shape.TheVariants.{Qpsk, Qam16, Qam64}
use Rattle.mode_set.specs.declared.modes.Hierarchy.TheVariants.{Flat, Alpha1, Alpha2, Alpha4}
use Rattle.qam_map.specs.Points.{LevelsAreNearest}

pub levels_are_nearest : LevelsAreNearest
unfolding numbers
levels_are_nearest Qpsk Flat zero one l = record { above = lit< tt; below = lit< tt }
levels_are_nearest Qpsk Flat (suc k) one l = absurd (omega (arith, l))
levels_are_nearest Qpsk Alpha1 zero one l = record { above = lit< tt; below = lit< tt }
levels_are_nearest Qpsk Alpha1 (suc k) one l = absurd (omega (arith, l))
levels_are_nearest Qpsk Alpha2 k one l = absurd (omega (arith, one refl))
levels_are_nearest Qpsk Alpha4 k one l = absurd (omega (arith, one refl))
levels_are_nearest Qam16 Flat zero one l = record { above = lit< tt; below = lit< tt }
levels_are_nearest Qam16 Flat (suc zero) one l = record { above = lit< tt; below = lit< tt }
levels_are_nearest Qam16 Flat (suc (suc k)) one l = absurd (omega (arith, l))
levels_are_nearest Qam16 Alpha1 zero one l = record { above = lit< tt; below = lit< tt }
levels_are_nearest Qam16 Alpha1 (suc zero) one l = record { above = lit< tt; below = lit< tt }
levels_are_nearest Qam16 Alpha1 (suc (suc k)) one l = absurd (omega (arith, l))
levels_are_nearest Qam16 Alpha2 zero one l = record { above = lit< tt; below = lit< tt }
levels_are_nearest Qam16 Alpha2 (suc zero) one l = record { above = lit< tt; below = lit< tt }
levels_are_nearest Qam16 Alpha2 (suc (suc k)) one l = absurd (omega (arith, l))
levels_are_nearest Qam16 Alpha4 zero one l = record { above = lit< tt; below = lit< tt }
levels_are_nearest Qam16 Alpha4 (suc zero) one l = record { above = lit< tt; below = lit< tt }
levels_are_nearest Qam16 Alpha4 (suc (suc k)) one l = absurd (omega (arith, l))
levels_are_nearest Qam64 Flat zero one l = record { above = lit< tt; below = lit< tt }
levels_are_nearest Qam64 Flat (suc zero) one l = record { above = lit< tt; below = lit< tt }
levels_are_nearest Qam64 Flat (suc (suc zero)) one l = record { above = lit< tt; below = lit< tt }
levels_are_nearest Qam64 Flat (suc (suc (suc zero))) one l = record { above = lit< tt; below = lit< tt }
levels_are_nearest Qam64 Flat (suc (suc (suc (suc k)))) one l = absurd (omega (arith, l))
levels_are_nearest Qam64 Alpha1 zero one l = record { above = lit< tt; below = lit< tt }
levels_are_nearest Qam64 Alpha1 (suc zero) one l = record { above = lit< tt; below = lit< tt }
levels_are_nearest Qam64 Alpha1 (suc (suc zero)) one l = record { above = lit< tt; below = lit< tt }
levels_are_nearest Qam64 Alpha1 (suc (suc (suc zero))) one l = record { above = lit< tt; below = lit< tt }
levels_are_nearest Qam64 Alpha1 (suc (suc (suc (suc k)))) one l = absurd (omega (arith, l))
levels_are_nearest Qam64 Alpha2 zero one l = record { above = lit< tt; below = lit< tt }
levels_are_nearest Qam64 Alpha2 (suc zero) one l = record { above = lit< tt; below = lit< tt }
levels_are_nearest Qam64 Alpha2 (suc (suc zero)) one l = record { above = lit< tt; below = lit< tt }
levels_are_nearest Qam64 Alpha2 (suc (suc (suc zero))) one l = record { above = lit< tt; below = lit< tt }
levels_are_nearest Qam64 Alpha2 (suc (suc (suc (suc k)))) one l = absurd (omega (arith, l))
levels_are_nearest Qam64 Alpha4 zero one l = record { above = lit< tt; below = lit< tt }
levels_are_nearest Qam64 Alpha4 (suc zero) one l = record { above = lit< tt; below = lit< tt }
levels_are_nearest Qam64 Alpha4 (suc (suc zero)) one l = record { above = lit< tt; below = lit< tt }
levels_are_nearest Qam64 Alpha4 (suc (suc (suc zero))) one l = record { above = lit< tt; below = lit< tt }
levels_are_nearest Qam64 Alpha4 (suc (suc (suc (suc k)))) one l = absurd (omega (arith, l))
