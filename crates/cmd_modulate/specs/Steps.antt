-- The steps of a modulation after its settings, each as a relation of the station before and after it. They imply the
-- promise of the run.
use Rattle.std.specs.Prelude.{◌≡◌, ◌⊎◌, ◌≤◌, ℕ, Bool, true, false, if◌then◌else◌, List, [], ◌++◌, take, Result, Ok, Err}
use Rattle.std.specs.Prelude.{Option, Some, None, is_some, IsSomeAnd}
use Rattle.station_core.specs.Meaning.{Meaning, Source, asked_source, asked_sink}
use Rattle.station_core.specs.declared.station.Failed.{Failed}
use Rattle.mode_set.specs.declared.modes.Stream.{Stream}
use Rattle.mode_set.specs.declared.settings.Settings.{Settings as TheSettings}
use Rattle.cmd_base.specs.declared.refusal.Refusal.{Refusal}
use Rattle.cmd_base.specs.declared.refusal.Refusal.TheVariants.{ReadFault, WriteFault, Memory}
use Rattle.cmd_base.specs.Text.{refusal_text, refusal_status}
use Rattle.cmd_base.specs.Causes.{FlushesOnly, HasEndCause, Settles}
use Rattle.cmd_base.specs.Report.{WritesText}
use Rattle.cmd_modulate.specs.declared.inputs.PacketInputs.{PacketInputs}
use Rattle.cmd_modulate.specs.Seen.{Seen}
use Rattle.cmd_modulate.specs.Work.{Modulates}
use Rattle.cmd_modulate.specs.ModulateCommand.{files_of, inputs_of, modulation_lines, modulation_refusal}
use Rattle.cmd_modulate.specs.declared.counts.TransmissionCounts.{TransmissionCounts}

-- nothing was requested at HP, LP and Cells, Report is open, and nothing is pending
pub record IsReady (m : Meaning) : Type 0 where
  pub hp : m.hp.asked ≡ None
  pub lp : m.lp.asked ≡ None
  pub lp_attached : m.lp.attached ≡ false
  pub cells : m.cells_out.asked ≡ None
  pub report : m.report.created ≡ true
  pub report_open : m.report.closed ≡ false
  pub settled : m.pending ≡ false

-- a transmitter before its first packet
pub record IsNew (t : Seen) : Type 0 where
  pub made : t.made ≡ 0
  pub hp : t.hp ≡ 0
  pub lp : t.lp ≡ 0

-- the inputs before the first packet, of both streams or only of HP
abbrev pub first_inputs : Bool → PacketInputs
first_inputs two = record {
  hp = record { taken = 0; tail = None };
  lp
      = if two then record { taken = 0; tail = None } else record { taken = 0; tail = Some 0 };
}

-- the source of LP once its file is opened, if there is one
abbrev pub lp_source : Option (List ℕ) → Meaning → Source
lp_source None m = m.lp
lp_source (Some name) m = record { asked = Some name; attached = true; left = m.file name }

-- the source of HP once its file is opened
abbrev pub hp_source : List ℕ → Meaning → Source
hp_source name m = record { asked = Some name; attached = true; left = m.file name }

-- LP was opened, if there is LP, or its file could not be
abbrev pub OpensLp : Option (List ℕ) → Meaning → Meaning → Result (Unit {0}) Failed → Type 0
OpensLp lp old new (Ok u) = new ≡ record old { lp = lp_source lp old }
OpensLp lp old new (Err failed) = IsSomeAnd lp (λ name. new ≡ record old
    { lp = asked_source name old.lp; read_faults = new.read_faults })

-- HP could not be opened, and nothing else was requested
abbrev pub FailsAtHp : List ℕ → Meaning → Meaning → Type 0
FailsAtHp hp old new = new ≡ record old { hp = asked_source hp old.hp; read_faults = new.read_faults }

-- HP was opened, and LP could not be
abbrev pub FailsAtLp : List ℕ → Option (List ℕ) → Meaning → Meaning → Type 0
FailsAtLp hp lp old new = IsSomeAnd lp (λ name. new ≡ record old
    { hp = hp_source hp old; lp = asked_source name old.lp; read_faults = new.read_faults })

-- the inputs were opened, and Cells could not be created
abbrev pub FailsAtCells : List ℕ → Option (List ℕ) → List ℕ → Meaning → Meaning → Type 0
FailsAtCells hp lp cells old new =
    new ≡ record old {
      hp = hp_source hp old;
      lp = lp_source lp old;
      cells_out
          = asked_sink cells old.cells_out;
      write_faults = new.write_faults;
    }

-- the ports were opened in order, HP before LP and Cells last, or one was not
abbrev pub OpensAll : List ℕ → Option (List ℕ) → List ℕ → Meaning → Meaning → Result (Unit {0}) Refusal → Type 0
OpensAll hp lp cells old new (Ok u) =
    new ≡ record old {
      hp = hp_source hp old;
      lp = lp_source lp old;
      cells_out = record { asked = Some cells; created = true; closed = false; written = [] };
    }
OpensAll hp lp cells old new (Err ReadFault) = FailsAtHp hp old new ⊎ FailsAtLp hp lp old new
OpensAll hp lp cells old new (Err WriteFault) = FailsAtCells hp lp cells old new
OpensAll hp lp cells old new (Err refusal) = ⊥

-- all ports were opened, and Cells is closed; the bytes left of the inputs, the bytes written and pending and the
-- counts may differ
pub record IsClosed (hp : List ℕ) (lp : Option (List ℕ)) (cells : List ℕ) (old new : Meaning) : Type 0 where
  pub others : new ≡ record old {
    hp = record (hp_source hp old) { left = new.hp.left };
    lp = record (lp_source lp old) { left = new.lp.left };
    cells_out = record { asked = Some cells; created = true; closed = true; written = new.cells_out.written };
    report = record old.report { written = new.report.written };
    read_faults = new.read_faults;
    write_faults = new.write_faults;
    close_faults = new.close_faults;
    report_faults = new.report_faults;
    pending = new.pending;
  }
  pub later_report : old.report_faults ≤ new.report_faults

-- the lines printed: all, a prefix of them if a write failed, or none
abbrev pub HasPrinted : List ℕ → Meaning → Meaning → Result TransmissionCounts Refusal → Type 0
HasPrinted lines old new (Ok counts) = new.report.written ≡ old.report.written ++ lines
HasPrinted lines old new (Err WriteFault) = (k : ℕ) × (new.report.written ≡ old.report.written ++ take k lines)
HasPrinted lines old new (Err refusal) = new.report.written ≡ old.report.written

-- the work was begun, with this result
pub record Worked (s : TheSettings) (limit : ℕ) (hp : List ℕ) (lp : Option (List ℕ)) (cells : List ℕ)
    (old new : Meaning) (result : Result TransmissionCounts Refusal) : Type 0 where
  pub ports : IsClosed hp lp cells old new
  pub modulates : old.tells ≡ true → Modulates s limit (files_of old.file hp lp) new result
  pub printed : old.tells ≡ true → HasPrinted (modulation_lines s limit (is_some lp) (files_of old.file hp lp)) old new
      result

-- the state after a run, by its outcome: the work was begun, or a port was not opened
abbrev pub Ran : TheSettings → ℕ → List ℕ → Option (List ℕ) → List ℕ → Meaning → Meaning
    → Result TransmissionCounts Refusal → Type 0
Ran s limit hp lp cells old new (Ok counts) = Worked s limit hp lp cells old new (Ok counts)
Ran s limit hp lp cells old new (Err refusal) = OpensAll hp lp cells old new (Err refusal)
    ⊎ Worked s limit hp lp cells old new (Err refusal)

-- every packet sent is accepted
abbrev pub IsAccepted : TheSettings → ℕ → (Stream → List ℕ) → Type 0
IsAccepted s limit files = modulation_refusal s limit (inputs_of files) ≡ None

-- the output is closed, and a failure of that is only counted
pub record ClosesOutput (old new : Meaning) : Type 0 where
  pub closed : new ≡ record old { cells_out = record old.cells_out { closed = true }; close_faults = new.close_faults }
  pub later : old.close_faults ≤ new.close_faults

-- after a refusal in the work the output is flushed, which may turn it into a write fault, and then closed in any case
pub record ClosesRefused (refusal : Refusal) (old new : Meaning) (result : Refusal) : Type 0 where
  pub flushed : Meaning
  pub flushes : FlushesOnly old flushed
  pub settles : Settles refusal old flushed result
  pub closes : ClosesOutput flushed new

-- the status of an outcome
abbrev pub outcome_status : Result TransmissionCounts Refusal → ℕ
outcome_status (Ok counts) = 0
outcome_status (Err refusal) = refusal_status refusal

-- the state after the work is the end, or the text of a refusal is written after it
abbrev pub Tells : Meaning → Meaning → Result TransmissionCounts Refusal → Type 0
Tells mid new (Ok counts) = new ≡ mid
Tells mid new (Err refusal) = WritesText (refusal_text refusal) mid new

-- a run has one outcome, which determines the status, the ports and the report
pub record RunsModulation (s : TheSettings) (limit : ℕ) (hp : List ℕ) (lp : Option (List ℕ)) (cells : List ℕ)
    (old new : Meaning) (status : ℕ) : Type 0 where
  pub outcome : Result TransmissionCounts Refusal
  pub mid : Meaning
  pub status_is : status ≡ outcome_status outcome
  pub cause : HasEndCause (old.tells ≡ true → IsAccepted s limit (files_of old.file hp lp)) old mid outcome
  pub ran : Ran s limit hp lp cells old mid outcome
  pub tells : Tells mid new outcome

-- the run, or lack of memory before a port is requested
abbrev pub RunsOrLacks : TheSettings → ℕ → List ℕ → Option (List ℕ) → List ℕ → Meaning → Meaning → ℕ → Type 0
RunsOrLacks s limit hp lp cells old new status =
    RunsModulation s limit hp lp cells old new status ⊎ ((status ≡ 7) × WritesText (refusal_text Memory) old new)
