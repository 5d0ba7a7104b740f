-- The sums of the coefficients. Made by tools/tracking-rows from tools/tracking_coefficients.txt.
use Rattle.std.proofs.Common.{◌≡◌, ℕ, List, [], ◌∷◌, refl, map}
use Rattle.std.specs.Prelude.{ℤ, pos, neg_ℤ, ◌+ℤ◌, nat_abs}
use Rattle.mode_set.specs.declared.modes.Guard.TheVariants.{G1of32, G1of16, G1of8, G1of4}
use Rattle.tracking.specs.declared.motion.Motion.TheVariants.{Slow, Fast}
use Rattle.tracking.specs.Coefficients.{time_taps, frequency_rows}

abbrev total : List ℤ → ℤ
total [] = pos 0
total (x ∷ xs) = x +ℤ total xs

pub slow_taps : map total (time_taps Slow) ≡ pos 4096 ∷ pos 4096 ∷ pos 4096 ∷ pos 4096 ∷ []
unfolding time_taps
slow_taps = refl

pub fast_taps : map total (time_taps Fast) ≡ pos 4096 ∷ pos 4096 ∷ pos 4096 ∷ pos 4096 ∷ []
unfolding time_taps
fast_taps = refl

pub rows_of_32 : map total (frequency_rows G1of32) ≡ pos 16301 ∷ pos 16361 ∷ pos 16402 ∷ pos 16423 ∷ pos 16435 ∷ pos 16436 ∷ pos 16430 ∷ pos 16423 ∷ pos 16410 ∷ pos 16397 ∷ pos 16388 ∷ pos 16377 ∷ pos 16367 ∷ pos 16359 ∷ pos 16354 ∷ pos 16351 ∷ pos 16347 ∷ []
unfolding frequency_rows
rows_of_32 = refl

pub rows_of_16 : map total (frequency_rows G1of16) ≡ pos 16284 ∷ pos 16449 ∷ pos 16524 ∷ pos 16534 ∷ pos 16497 ∷ pos 16442 ∷ pos 16380 ∷ pos 16329 ∷ pos 16290 ∷ pos 16277 ∷ pos 16282 ∷ pos 16308 ∷ pos 16343 ∷ pos 16384 ∷ pos 16423 ∷ pos 16452 ∷ pos 16471 ∷ []
unfolding frequency_rows
rows_of_16 = refl

pub rows_of_8 : map total (frequency_rows G1of8) ≡ pos 16323 ∷ pos 16526 ∷ pos 16557 ∷ pos 16489 ∷ pos 16389 ∷ pos 16310 ∷ pos 16275 ∷ pos 16285 ∷ pos 16328 ∷ pos 16386 ∷ pos 16433 ∷ pos 16455 ∷ pos 16451 ∷ pos 16419 ∷ pos 16373 ∷ pos 16332 ∷ pos 16307 ∷ []
unfolding frequency_rows
rows_of_8 = refl

pub rows_of_4 : map total (frequency_rows G1of4) ≡ pos 16364 ∷ pos 17128 ∷ pos 16888 ∷ pos 16379 ∷ pos 16088 ∷ pos 16143 ∷ pos 16363 ∷ pos 16521 ∷ pos 16506 ∷ pos 16378 ∷ pos 16273 ∷ pos 16275 ∷ pos 16366 ∷ pos 16447 ∷ pos 16448 ∷ pos 16373 ∷ pos 16300 ∷ []
unfolding frequency_rows
rows_of_4 = refl
