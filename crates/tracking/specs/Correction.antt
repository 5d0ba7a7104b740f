-- The correction of a cell by the gain of its carrier, and its weight from the noise.
use Rattle.std.specs.Prelude.{ℕ, ◌+◌, ◌-◌, ◌*◌, ◌/◌, ◌==◌, min, max, if◌then◌else◌, ℤ, pos, ◌+ℤ◌, ◌-ℤ◌, ◌*ℤ◌, sum_by}
use Rattle.spec_words.specs.Words.{numbers}
use Rattle.mode_set.specs.StreamTable.{carriers}
use Rattle.mode_set.specs.declared.modes.Mode.{Mode}
use Rattle.mode_set.specs.declared.modes.Shape.{Shape}
use Rattle.mode_set.specs.declared.modes.Shape.TheVariants.{Qpsk, Qam16, Qam64}
use Rattle.qam_map.specs.declared.cell.Cell.{Cell}
use Rattle.track_arithmetic.specs.Numbers.{power, value_near}
use Rattle.track_arithmetic.specs.declared.complex.Complex.{Complex}
use Rattle.tracking.specs.declared.tracked.Tracked.{Tracked}

-- the cell divided by the gain, which is 16 times the value of a pilot; a pilot is sent as 21845
abbrev pub divided : Complex → Cell → Cell
divided g c = record {
  re = value_near (pos 349520 *ℤ (c.re *ℤ g.re +ℤ c.im *ℤ g.im)) (power g);
  im = value_near (pos 349520 *ℤ (c.im *ℤ g.re -ℤ c.re *ℤ g.im)) (power g);
}

-- the mean power of the gain over the carriers of a symbol, at least 1
unfoldable pub mean_power : Mode → (ℕ → Complex) → ℕ
mean_power m g = max 1 (sum_by (λ k. power (g k)) (numbers (carriers m)) / carriers m)

-- the ratio of power to noise from which a cell has full weight
abbrev pub full_ratio : Shape → ℕ
full_ratio Qpsk = 8
full_ratio Qam16 = 25
full_ratio Qam64 = 100

-- the power at which a cell has full weight: from the noise of `pilots` pilots, at most 3/2 of the mean
abbrev pub full_power : Shape → ℕ → ℕ → ℕ → ℕ
full_power shape mean noise pilots = max 1 (min (3 * mean / 2) (4096 * (full_ratio shape * noise) / (9 * pilots)))

-- 15 times the power of a carrier over that of full weight, rounded, at most 15
abbrev pub weight_of : ℕ → ℕ → ℕ
weight_of full n = min 15 ((15 * n + full / 2) / full)

-- w fifteenths of the old weight of the cell
abbrev pub shared_weight : ℕ → ℕ → ℕ
shared_weight w old = (2 * (w * min 15 old) + 15) / 30

-- the corrected cell and its weight; a gain of 0 gives a zero cell of weight 0
unfoldable pub corrected : ℕ → Complex → Cell → ℕ → Tracked
corrected full g c old =
    if power g == 0 then record { cell = record { re = pos 0; im = pos 0 }; weight = 0 }
    else record { cell = divided g c; weight = shared_weight (weight_of full (power g)) old }
