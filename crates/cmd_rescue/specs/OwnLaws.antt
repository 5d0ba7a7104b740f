-- Laws of `rescue`: its output is unique, and the number of workers changes nothing.
use Rattle.std.specs.Prelude.{◌≡◌, ℕ, List, Option, Some}
use Rattle.station_core.specs.declared.ports.OutPort.{OutPort}
use Rattle.mode_set.specs.declared.settings.Settings.{Settings}
use Rattle.reception.specs.Alike.{DifferInWorkers}
use Rattle.cmd_receive.specs.OneOutput.{IsOneOutput}
use Rattle.cmd_receive.specs.Received.{cells_in}
use Rattle.cmd_rescue.specs.Rescued.{LinesCome, LinesSoFar, OutputComes, OutputSoFar}

-- With settings t the file of cells has the same output as with settings s: the outputs and the lines of the report,
-- for all cells or those within the limit, and up to a failed read.
pub record AreAlike (s t : Settings) (file : List ℕ) : Type 0 where
  pub outputs : (port : OutPort) (output : List ℕ) → OutputComes s (cells_in file) port output
      → OutputComes t (cells_in file) port output
  pub lines : (lines : List ℕ) → LinesCome s (cells_in file) lines → LinesCome t (cells_in file) lines
  pub outputs_so_far : (left : List ℕ) (port : OutPort) (output : List ℕ) → OutputSoFar s file left port output
      → OutputSoFar t file left port output
  pub lines_so_far : (left lines : List ℕ) → LinesSoFar (Some s) file left lines → LinesSoFar (Some t) file left lines

-- the laws, from the stated settings, if any, and the file of cells
pub record RescueLaws (stated : Option Settings) (file : List ℕ) : Type 0 where
  -- Each output, and the report, is unique.
  pub one : (s : Settings) → stated ≡ Some s → IsOneOutput (OutputComes s (cells_in file)) (LinesCome s (cells_in file))
      (OutputSoFar s file) (LinesSoFar (Some s) file)
  -- Settings that differ only in the number of workers change nothing.
  pub alike : (s t : Settings) → stated ≡ Some s → DifferInWorkers s t → AreAlike s t file
