-- The work of `measure` on cells, with settings s.
use Rattle.std.specs.Prelude.{◌≡◌, ◌⊎◌, ℕ, Bool, false, List, [], map, Some}
use Rattle.arrayvec.specs.ArrayString.{ArrayString}
use Rattle.station_core.specs.Meaning.{Meaning}
use Rattle.station_core.specs.declared.ports.OutPort.{OutPort}
use Rattle.station_core.specs.declared.ports.OutPort.TheVariants as outs
use Rattle.mode_set.specs.declared.settings.Settings.{Settings}
use Rattle.frame_build.specs.CellFile.{header}
use Rattle.reception.specs.Cells.{symbol_length}
use Rattle.measurement.specs.Lines.{MeasureLive, MeasureFinal}
use Rattle.cmd_base.specs.declared.refusal.Refusal.TheVariants.{Memory}
use Rattle.cmd_base.specs.Text.{refusal_text}
use Rattle.cmd_base.specs.Report.{WritesText}
use Rattle.cmd_cells.specs.Runs.{RunsCells}
use Rattle.cmd_cells.specs.Work.{Work, Written}
use Rattle.cmd_measure.specs.MeasureCommand.{no_names}

-- the texts of lines
abbrev pub texts : List ArrayString → List (List ℕ)
texts lines = map (λ (l : ArrayString). l.bytes) lines

-- only the lines at Report are written
abbrev pub writes_nowhere : OutPort → Bool
writes_nowhere port = false

-- these lines at Report, and no bytes at any other port
abbrev pub printed : List ℕ → Written
printed lines outs.Cells = []
printed lines outs.Hp = []
printed lines outs.Lp = []
printed lines outs.Bytes = []
printed lines outs.Report = lines

-- lines that satisfy `Is` are printed
abbrev pub Prints : (List ℕ → Type 0) → Written → Type 0
Prints Is given = (lines : List ℕ) × Is lines × ((port : OutPort) → given port ≡ printed lines port)

-- The output for bytes is the lines they define so far, and at the end all lines. No cells are refused.
abbrev pub measuring_work : Settings → Work
measuring_work s = record {
  size = symbol_length s;
  Gives = λ bytes. Prints (MeasureLive s bytes);
  Ends = λ bytes. Prints (MeasureFinal s bytes);
  Refuses = λ bytes left given r. ⊥;
  Reasons = λ r. ⊥;
}

-- the work was done on the cells, or memory was lacking before a port was requested
abbrev pub RunsOrLacks : Settings → List ℕ → Meaning → Meaning → ℕ → Type 0
RunsOrLacks s cells old new status =
    RunsCells (measuring_work s) s.max_symbols cells (Some (header s.mode)) no_names old new status
    ⊎ ((status ≡ 7) × WritesText (refusal_text Memory) old new)
