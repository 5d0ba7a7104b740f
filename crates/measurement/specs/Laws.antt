-- The laws of measurement. Each is the clause of a public function of module laws.
use Rattle.std.specs.Prelude.{◌≡◌, ℕ, ◌<◌, List, ◌++◌}
use Rattle.mode_set.specs.declared.settings.Settings.{Settings}
use Rattle.reception.specs.Cells.{symbols}
use Rattle.measure_report.specs.declared.sums.SuperFrame.{SuperFrame}
use Rattle.measurement.specs.SuperFrames.{AreSums}
use Rattle.measurement.specs.Lines.{defined_by, MeasureLive, MeasureFinal}

-- more bytes leave the sums of a defined super-frame
abbrev pub SumsStay : Type 0
SumsStay = (s : Settings) (bytes more : List ℕ) (j : ℕ) (f : SuperFrame) → j < defined_by (symbols s bytes)
    → AreSums s bytes j f → AreSums s (bytes ++ more) j f

-- the sums of a super-frame are unique
abbrev pub OneSums : Type 0
OneSums = (s : Settings) (bytes : List ℕ) (j : ℕ) (f g : SuperFrame) → AreSums s bytes j f → AreSums s bytes j g → f ≡ g

-- the lines so far are a prefix of those for more bytes
abbrev pub LiveBeginsLive : Type 0
LiveBeginsLive = (s : Settings) (bytes more out longer : List ℕ) → MeasureLive s bytes out
    → MeasureLive s (bytes ++ more) longer → (rest : List ℕ) × (longer ≡ out ++ rest)

-- the lines so far are a prefix of the lines at the end
abbrev pub LiveBeginsFinal : Type 0
LiveBeginsFinal = (s : Settings) (bytes more out longer : List ℕ) → MeasureLive s bytes out
    → MeasureFinal s (bytes ++ more) longer → (rest : List ℕ) × (longer ≡ out ++ rest)
