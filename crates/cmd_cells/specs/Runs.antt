-- The steps of a run on cells after its settings, each as a relation of the station before and after it. They imply the
-- promise of the run.
use Rattle.std.specs.Prelude.{◌≡◌, ◌⊎◌, ◌≤◌, ◌+◌, ◌*◌, ℕ, true, false, List, [], Option, Result, Ok, Err, Some, None}
use Rattle.std.specs.Prelude.{is_some}
use Rattle.station_core.specs.Meaning.{Meaning, IsUnasked, sink_at}
use Rattle.station_core.specs.declared.ports.OutPort.{OutPort}
use Rattle.station_core.specs.declared.ports.OutPort.TheVariants as outs
use Rattle.cmd_base.specs.declared.refusal.Refusal.{Refusal}
use Rattle.cmd_base.specs.Header.{header_refusal}
use Rattle.cmd_base.specs.Text.{refusal_text, refusal_status}
use Rattle.cmd_base.specs.Report.{WritesText}
use Rattle.cmd_cells.specs.declared.run_error.RunError.{RunError}
use Rattle.cmd_cells.specs.declared.run_error.RunError.TheVariants.{WriteFault}
use Rattle.cmd_cells.specs.Stops.{HasEndCause, stop_refusal}
use Rattle.cmd_cells.specs.Work.{HasReason, Work}
use Rattle.cmd_cells.specs.Outputs.{AreUntouched, Names, made}
use Rattle.cmd_cells.specs.Cells.{EndsWithin, TakesAtMost, Works}
use Rattle.cmd_cells.specs.Opening.{Opens, opened}

-- the outputs can be created, and Report is open and not one of them
pub record CanBegin (names : Names) (m : Meaning) : Type 0 where
  pub outputs : AreUntouched names m
  pub apart : names outs.Report ≡ None
  pub report : m.report.created ≡ true
  pub report_open : m.report.closed ≡ false

-- and nothing was requested at Cells
pub record IsReady (names : Names) (m : Meaning) : Type 0 where
  pub cells : IsUnasked m.cells
  pub begin : CanBegin names m

-- only Cells, the outputs, their pending flag, what is written to Report and the counts have changed
abbrev pub PortsOnly : Meaning → Meaning → Type 0
PortsOnly old new = new ≡ record old {
  cells = new.cells;
  cells_out = new.cells_out;
  hp_out = new.hp_out;
  lp_out = new.lp_out;
  bytes_out = new.bytes_out;
  report = record old.report { written = new.report.written };
  read_faults = new.read_faults;
  write_faults = new.write_faults;
  close_faults = new.close_faults;
  report_faults = new.report_faults;
  pending = new.pending;
}

-- and only these names were requested at the outputs
abbrev pub AsksOutputs : Names → Meaning → Meaning → Type 0
AsksOutputs names old new = (port : OutPort) → ((sink_at port new).asked ≡ (sink_at port old).asked)
    ⊎ ((sink_at port new).asked ≡ names port)

-- an output was not created: nothing was taken of the cells, no output is open, and all are empty
pub record IsUnmade (names : Names) (old new : Meaning) : Type 0 where
  pub cells : new.cells ≡ old.cells
  pub shut : (port : OutPort) → is_some (names port) ≡ true → (sink_at port new).created ≡ true
      → ((sink_at port new).closed ≡ true) × ((sink_at port new).written ≡ [])
  pub asked : (port : OutPort) → is_some (names port) ≡ true → (sink_at port new ≡ sink_at port old)
      ⊎ ((sink_at port new).asked ≡ names port)
  pub lp_behind : (new.lp_out ≡ old.lp_out) ⊎ (new.hp_out.created ≡ true)
  pub report : new.report ≡ old.report

-- the outputs were created, the work was done as far as it went, and the outputs were closed
pub record IsWorked (w : Work) (most : ℕ) (names : Names) (old new : Meaning) (result : Result (Unit {0}) RunError) :
    Type 0 where
  -- before the work
  pub start : Meaning
  pub tells : start.tells ≡ old.tells
  pub made : (port : OutPort) (name : List ℕ) → names port ≡ Some name → sink_at port start ≡ made name
  pub report : start.report ≡ old.report
  -- and after it
  pub attached : new.cells.attached ≡ old.cells.attached
  pub asked : (port : OutPort) → is_some (names port) ≡ true → (sink_at port new).asked ≡ names port
  pub created : (port : OutPort) → is_some (names port) ≡ true → (sink_at port new).created ≡ true
  pub closed : (port : OutPort) → is_some (names port) ≡ true → (sink_at port new).closed ≡ true
  pub lp_behind : (new.lp_out.asked ≡ old.lp_out.asked) ⊎ (new.hp_out.created ≡ true)
  pub works : Works w most old.cells.left start new result

-- an output was not created, or the work was done
abbrev pub RanBehind : Work → ℕ → Names → Meaning → Meaning → Result (Unit {0}) RunError → Type 0
RanBehind w most names old new result = ((result ≡ Err WriteFault) × IsUnmade names old new)
    ⊎ IsWorked w most names old new result

-- the status of the work: 0, or that of the reason why it stopped
abbrev pub outcome_status : ℕ → Result (Unit {0}) RunError → ℕ
outcome_status most (Ok u) = 0
outcome_status most (Err stop) = refusal_status (stop_refusal most stop)

-- the state after the work is the end, or the text of a refusal is written after it
abbrev pub Tells : ℕ → Meaning → Meaning → Result (Unit {0}) RunError → Type 0
Tells most mid new (Ok u) = new ≡ mid
Tells most mid new (Err stop) = WritesText (refusal_text (stop_refusal most stop)) mid new

-- after opening the cells a run has one outcome, which determines the status, the ports and the report
pub record RunsBehind (w : Work) (most : ℕ) (names : Names) (old new : Meaning) (status : ℕ) : Type 0 where
  pub outcome : Result (Unit {0}) RunError
  pub mid : Meaning
  pub status_is : status ≡ outcome_status most outcome
  pub others : PortsOnly old mid
  pub cells_asked : mid.cells.asked ≡ old.cells.asked
  pub asks : AsksOutputs names old mid
  pub cause : HasEndCause (old.tells ≡ true → EndsWithin w most old.cells.left) old mid outcome
  pub reason : HasReason w outcome
  pub later_report : old.report_faults ≤ mid.report_faults
  pub ran : RanBehind w most names old mid outcome
  pub taken : TakesAtMost ((most + 1) * w.size) old mid
  pub tells : Tells most mid new outcome

-- the cells could not be opened, their header could not be read, or it is missing
pub record RefusesCells (cells : List ℕ) (header : Option (List ℕ)) (old new : Meaning) (status : ℕ) : Type 0 where
  pub refusal : Refusal
  pub mid : Meaning
  pub status_is : status ≡ refusal_status refusal
  pub opens : Opens cells header old mid (Err refusal)
  pub tells : WritesText (refusal_text refusal) mid new

-- a run on cells
abbrev pub RunsCells : Work → ℕ → List ℕ → Option (List ℕ) → Names → Meaning → Meaning → ℕ → Type 0
RunsCells w most cells header names old new status =
    RefusesCells cells header old new status
    ⊎ ((old.tells ≡ true → header_refusal header (old.file cells) ≡ None)
    × RunsBehind w most names (opened cells header old) new status)
