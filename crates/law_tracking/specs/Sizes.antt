-- Bounds of the gain at a comb point, and of the sums that it is computed from.
use Rattle.std.specs.Prelude.{ℕ, ◌^◌, ◌<◌, ◌≤◌, filter, map, nat_abs, sum_by, Bool}
use Rattle.spec_words.specs.Words.{numbers}
use Rattle.mode_set.specs.declared.modes.Guard.{Guard}
use Rattle.tracking.specs.Comb.{Comb, turn}
use Rattle.tracking.specs.InTime.{place, tap_at, point_gain}
use Rattle.tracking.specs.declared.motion.Motion.{Motion}
use Rattle.track_arithmetic.specs.Laws.{IsWithin}

-- the values are those of cells, some negated
abbrev pub HasCells : Comb → Type 0
HasCells c = (t j : ℕ) → t < c.count → IsWithin (2 ^ 15) (c.value t j)

-- no part of a turn exceeds 2^14
abbrev pub TurnsAreSmall : Type 0
TurnsAreSmall = (c : Comb) (m t : ℕ) → IsWithin (2 ^ 14) (turn c m t)

-- a bound of the taps' absolute sum, whichever of the four symbols count
abbrev pub SumsAreSmall : Type 0
SumsAreSmall = (f : Motion) (d : ℕ) (counts : ℕ → Bool) → d < 4
    → sum_by (λ p. nat_abs (tap_at f d (filter counts (map (place d) (numbers 4))) p))
    (filter counts (map (place d) (numbers 4))) ≤ 5620

-- 5620 * 2^30 / 2^22
abbrev pub most_gain : ℕ
most_gain = 1438720

-- no part of a gain exceeds that, which is below 2^21
abbrev pub PointGainsAreSmall : Type 0
PointGainsAreSmall = (g : Guard) (c : Comb) (m j : ℕ) → HasCells c → IsWithin most_gain (point_gain g c m j)
