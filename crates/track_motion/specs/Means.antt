-- The running means of the prediction errors.
use Rattle.std.specs.Prelude.{◌≡◌, ℕ, ◌+◌, ◌-◌, ◌*◌, ◌≤◌, Option, None, Some}
use Rattle.tracking.specs.Comb.{Comb}
use Rattle.tracking.specs.Moving.{mean_residue, predicted}
use Rattle.tracking.specs.declared.motion.Motion.{Motion}
use Rattle.tracking.specs.declared.motion.Motion.TheVariants.{Slow, Fast}
use Rattle.track_arithmetic.specs.Numbers.{minus, power}
use Rattle.track_motion.specs.declared.residues.Residues.{Residues}

-- the prediction error of point j of symbol m
abbrev pub left : Comb → Motion → ℕ → ℕ → ℕ
left c f m j = power (minus (c.value m j) (predicted c f m j))

-- the greatest error of a point; it bounds the sum over 177 points
abbrev pub most_left : ℕ
most_left = 173946175488

-- the greatest residue
abbrev pub most_residue : ℕ
most_residue = 177 * most_left

-- the mean residue of the slow channel, if known
abbrev pub slow_of : Option Residues → Option ℕ
slow_of None = None
slow_of (Some r) = Some r.slow

-- the mean residue of the fast channel, if known
abbrev pub fast_of : Option Residues → Option ℕ
fast_of None = None
fast_of (Some r) = Some r.fast

-- these are the running means after symbol m
pub record AreMeans (c : Comb) (m : ℕ) (means : Option Residues) : Type 0 where
  pub slow : slow_of means ≡ mean_residue c Slow m
  pub fast : fast_of means ≡ mean_residue c Fast m

-- no mean exceeds the greatest sum
abbrev pub AreSmall : Option Residues → Type 0
AreSmall None = Unit {0}
AreSmall (Some r) = (r.slow ≤ most_residue) × (r.fast ≤ most_residue)
