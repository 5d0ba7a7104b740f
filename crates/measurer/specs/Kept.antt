-- The invariant of a measurer.
use Rattle.std.specs.Prelude.{◌≡◌, ℕ, ◌+◌, ◌^◌, ◌<◌, ◌≤◌, false, List}
use Rattle.reception.specs.Streams.{so_far}
use Rattle.measurer.specs.Seen.{MeasurerState}
use Rattle.measurer.specs.Standing.{StandsFor}
use Rattle.measurer.specs.Steps.{AreKept}

-- its state matches some bytes and lines
pub record HasMeasured (x : MeasurerState) : Type 0 where
  pub bytes : List ℕ
  pub lines : List ℕ
  pub stands : StandsFor so_far x bytes lines

-- until the end its state matches some bytes, and the counts are bounded
pub record IsKept (x : MeasurerState) : Type 0 where
  pub few_taken : x.taken ≤ 2 ^ 32
  pub symbol : x.frames.symbol < 68
  pub few_frames : x.frames.read + x.frames.bad ≤ x.taken
  pub kept : x.ended ≡ false → AreKept x.meter x.taken
  pub measured : x.ended ≡ false → HasMeasured x
