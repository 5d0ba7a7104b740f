-- The lines of a measurement: those defined so far, and those at the end (this project's profile).
use Rattle.std.specs.Prelude.{◌≡◌, ℕ, ◌-◌, ◌/◌, ◌<◌, List, ◌++◌, flat_map}
use Rattle.std.specs.List.{concat}
use Rattle.spec_words.specs.Words.{numbers, rounded_up}
use Rattle.mode_set.specs.declared.settings.Settings.{Settings}
use Rattle.reception.specs.Cells.{symbols}
use Rattle.reception.specs.Streams.{Reception, Final}
use Rattle.reception.specs.Lines.{closing_lines}
use Rattle.measure_report.specs.Text.{lines}
use Rattle.measure_report.specs.declared.sums.SuperFrame.{SuperFrame}
use Rattle.measurement.specs.SuperFrames.{AreSums}

-- the lines of super-frame j are defined by the first 272 (j + 1) + 3 symbols; so n symbols define the first (n - 3) /
-- 272
abbrev pub defined_by : ℕ → ℕ
defined_by n = (n - 3) / 272

-- the number of super-frames begun by n symbols
abbrev pub begun_by : ℕ → ℕ
begun_by n = rounded_up n 272

-- the lines of the first n super-frames
unfoldable pub lines_of : (ℕ → SuperFrame) → ℕ → List ℕ
lines_of frames n = flat_map (λ j. concat (lines (frames j))) (numbers n)

-- the lines of a measurement that the bytes define so far
pub record MeasureLive (s : Settings) (bytes out : List ℕ) : Type 0 where
  pub frames : ℕ → SuperFrame
  pub are : (j : ℕ) → j < defined_by (symbols s bytes) → AreSums s bytes j (frames j)
  pub is : out ≡ lines_of frames (defined_by (symbols s bytes))

-- the lines at the end: those of each super-frame begun, then the closing lines of a reception
pub record MeasureFinal (s : Settings) (bytes out : List ℕ) : Type 0 where
  pub frames : ℕ → SuperFrame
  pub are : (j : ℕ) → j < begun_by (symbols s bytes) → AreSums s bytes j (frames j)
  pub reception : Reception
  pub final : Final s bytes reception
  pub is : out ≡ lines_of frames (begun_by (symbols s bytes)) ++ closing_lines s bytes reception
