-- The speed of the channel's changes, measured by how well neighbouring symbols predict the continual pilots.
use Rattle.std.specs.Prelude.{ℕ, zero, suc, ◌+◌, ◌-◌, ◌*◌, ◌/◌, min, nat_le, nat_lt, not, ◌&&◌, Bool, false}
use Rattle.std.specs.Prelude.{if◌then◌else◌, List, [], ◌∷◌, get_or, sum_by, Option, Some, None, pos, ℤ}
use Rattle.std.specs.List.{list_any}
use Rattle.spec_words.specs.Words.{numbers}
use Rattle.mode_set.specs.declared.modes.Guard.{Guard}
use Rattle.mode_set.specs.declared.modes.Guard.TheVariants.{G1of32, G1of16, G1of8, G1of4}
use Rattle.tracking.specs.BadSymbols.{is_bad}
use Rattle.tracking.specs.Coefficients.{time_taps}
use Rattle.tracking.specs.Comb.{Comb, continual_points, turned_value}
use Rattle.track_arithmetic.specs.Numbers.{minus, scaled, power, near, sum_of}
use Rattle.track_arithmetic.specs.declared.complex.Complex.{Complex}
use Rattle.tracking.specs.declared.motion.Motion.{Motion}
use Rattle.tracking.specs.declared.motion.Motion.TheVariants.{Slow, Fast}

-- tap i of the interpolation in time, for distance d of the last pilot
unfoldable pub tap : Motion → ℕ → ℕ → ℤ
tap f d i = get_or (get_or (time_taps f) d []) i (pos 0)

-- whether the motion is measured at symbol m: the symbols 6 and 2 before and after exist, and none of the five is bad
-- for m
unfoldable pub is_seen : Comb → ℕ → Bool
is_seen c m = (nat_le 6 m && nat_lt (m + 6) c.count) && not (list_any (is_bad c m)
    ((m - 6) ∷ (m - 2) ∷ m ∷ (m + 2) ∷ (m + 6) ∷ []))

-- a continual pilot of symbol m, predicted from the four symbols around it
abbrev pub predicted : Comb → Motion → ℕ → ℕ → Complex
predicted c f m j = near 26 (sum_of (λ i. scaled (tap f 2 i) (turned_value c m (m + 4 * i - 6) j)) (numbers 4))

-- the total prediction error of the continual pilots
unfoldable pub residue : Comb → Motion → ℕ → ℕ
residue c f m = sum_by (λ j. power (minus (c.value m j) (predicted c f m j))) (continual_points c.mode)

-- s + (r - s) / 8 rounded down: an eighth of the way from s to r
abbrev pub followed : ℕ → ℕ → ℕ
followed s r = (7 * s + r) / 8

-- the running mean of the residues after one more
abbrev pub follows : Option ℕ → ℕ → ℕ
follows None r = r
follows (Some s) r = followed s r

-- the running mean after symbol m, if some symbol up to it was seen; symbol 0 never is
unfoldable pub mean_residue : Comb → Motion → ℕ → Option ℕ
mean_residue c f zero = None
mean_residue c f (suc m) = if is_seen c (suc m) then Some (follows (mean_residue c f m) (residue c f (suc m))) else
    mean_residue c f m

-- the noise of the continual pilots: the lower estimate of both motions, whose residues are 4/5 and 16/29 noise
abbrev pub noise_of : ℕ → ℕ → ℕ
noise_of slow fast = min (4 * slow / 5) (16 * fast / 29)

-- the share of the noise, in sixteenths, that remains after interpolation in frequency
abbrev pub noise_share : Guard → ℕ
noise_share G1of4 = 2
noise_share G1of8 = 7
noise_share G1of16 = 10
noise_share G1of32 = 11

-- whether slow interpolation has at most the error of fast: it passes a quarter of the noise, the fast one 13/16
abbrev pub slow_is_better : Guard → ℕ → ℕ → Bool
slow_is_better g slow fast = nat_le (16 * slow + 13 * (noise_share g * noise_of slow fast) / 16)
    (16 * fast + noise_share g * noise_of slow fast / 4)

-- the channel counts as slow if both residues exist and slow interpolation has at most the error of fast
abbrev pub motion_of : Guard → Option ℕ → Option ℕ → Motion
motion_of g None fast = Fast
motion_of g (Some slow) None = Fast
motion_of g (Some slow) (Some fast) = if slow_is_better g slow fast then Slow else Fast

-- the motion assumed at symbol m
unfoldable pub motion : Guard → Comb → ℕ → Motion
motion g c m = motion_of g (mean_residue c Slow m) (mean_residue c Fast m)
