-- The measurement of a file of cells with given settings: the lines of the report, its only output. `bytes` are those
-- after the header of the file.
use Rattle.std.specs.Prelude.{◌≡◌, ◌⊎◌, ℕ, List, [], Option, None, Some}
use Rattle.mode_set.specs.declared.settings.Settings.{Settings}
use Rattle.measurement.specs.Lines.{MeasureLive, MeasureFinal}
use Rattle.cmd_receive.specs.Received.{IsAll, IsCutOff, IsSoFar}

-- The report has the lines of the whole measurement or, past the limit, those that the symbols within it define.
abbrev pub LinesCome : Settings → List ℕ → List ℕ → Type 0
LinesCome s bytes lines = IsAll MeasureFinal s bytes lines ⊎ IsCutOff MeasureLive s bytes lines

-- After a failed read the report has the lines that the bytes taken define, or none if no settings are stated.
abbrev pub LinesSoFar : Option Settings → List ℕ → List ℕ → List ℕ → Type 0
LinesSoFar None file left lines = lines ≡ []
LinesSoFar (Some s) file left lines = IsSoFar MeasureLive s file left lines
