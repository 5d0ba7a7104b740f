-- The steps of a run of a command that codes the packets of HP, each as a relation of the station before and after it.
-- They imply the promise of the run.
use Rattle.std.specs.Prelude.{◌≡◌, ◌⊎◌, ◌≤◌, ◌++◌, ℕ, true, false, List, [], take, Result, Ok, Err, Some, None}
use Rattle.std.specs.Prelude.{if◌then◌else◌}
use Rattle.station_core.specs.Meaning.{Meaning}
use Rattle.cmd_base.specs.declared.counts.Counts.{Counts}
use Rattle.cmd_base.specs.declared.refusal.Refusal.{Refusal}
use Rattle.cmd_base.specs.declared.refusal.Refusal.TheVariants.{Usage, Settings, ReadFault, WriteFault, NotSync, Memory}
use Rattle.cmd_base.specs.declared.refusal.Refusal.TheVariants.{Limit, Cells}
use Rattle.cmd_base.specs.Causes.{FlushesOnly, HasEndCause, Settles}
use Rattle.cmd_packets.specs.Coding.{CodesWhole}
use Rattle.cmd_base.specs.Packets.{AcceptsFirst, closing_line, counts_of, whole_packets}
use Rattle.cmd_base.specs.Report.{WritesText}
use Rattle.cmd_base.specs.Text.{refusal_text, refusal_status}

-- nothing was requested at HP and Bytes, Report is open and empty, and nothing is pending
pub record IsReady (m : Meaning) : Type 0 where
  pub hp : m.hp.asked ≡ None
  pub hp_closed : m.hp.attached ≡ false
  pub bytes : m.bytes_out.asked ≡ None
  pub not_created : m.bytes_out.created ≡ false
  pub report : m.report.created ≡ true
  pub report_open : m.report.closed ≡ false
  pub report_empty : m.tells ≡ true → m.report.written ≡ []
  pub settled : m.pending ≡ false

-- After the work, before the text of a refusal: only HP, Bytes, its pending flag, what is written to Report and the
-- counts have changed, and only these names were requested.
pub record AsksPorts (input output : List ℕ) (old new : Meaning) : Type 0 where
  pub others : new ≡ record old {
    hp = new.hp;
    bytes_out = new.bytes_out;
    report = record old.report { written = new.report.written };
    read_faults = new.read_faults;
    write_faults = new.write_faults;
    close_faults = new.close_faults;
    report_faults = new.report_faults;
    pending = new.pending;
  }
  pub later_report : old.report_faults ≤ new.report_faults
  pub hp : new.hp.asked ≡ Some input
  -- the output is requested only if the input was opened
  pub bytes : (new.bytes_out ≡ old.bytes_out) ⊎ ((new.bytes_out.asked ≡ Some output) × (new.hp.attached ≡ true))
  -- nothing is taken of the input before the output was created
  pub untaken : new.hp.attached ≡ true → (new.bytes_out.created ≡ true) ⊎ (new.hp.left ≡ old.file input)
  -- an output that was created is closed
  pub closed : new.bytes_out.created ≡ true → new.bytes_out.closed ≡ true

-- after the whole work all ports are finished
pub record IsFinished (old new : Meaning) (counts : Counts) : Type 0 where
  pub attached : new.hp.attached ≡ true
  pub created : new.bytes_out.created ≡ true
  pub report : old.tells ≡ true → new.report.written ≡ old.report.written ++ closing_line counts

-- the closing line or a prefix of it was written to Report, if all packets are accepted
abbrev pub ClosesFront : ℕ → List ℕ → List ℕ → List ℕ → Type 0
ClosesFront limit input before after =
    AcceptsFirst limit input (whole_packets input) × ((k : ℕ) ×
    (after ≡ before ++ take k (closing_line (counts_of input))))

-- The state after a run, by its outcome. Until the output is created it says nothing of the output.
abbrev pub Ran : (List (List ℕ) → List ℕ) → (List (List ℕ) → List ℕ) → ℕ → List ℕ → Meaning → Meaning
    → Result Counts Refusal → Type 0
Ran coded ended limit input old new (Ok counts) =
    IsFinished old new counts × (old.tells ≡ true → CodesWhole coded ended limit (old.file input) [] new.hp.left
    new.bytes_out.written (Ok counts))
Ran coded ended limit input old new (Err WriteFault) =
    (old.tells ≡ true → new.bytes_out.created ≡ true → CodesWhole coded ended limit (old.file input) [] new.hp.left
    new.bytes_out.written (Err WriteFault))
    × (old.tells ≡ true → (new.report.written ≡ old.report.written)
    ⊎ ClosesFront limit (old.file input) old.report.written new.report.written)
Ran coded ended limit input old new (Err ReadFault) =
    (new.report ≡ old.report)
    × (old.tells ≡ true → new.bytes_out.created ≡ true → CodesWhole coded ended limit (old.file input) [] new.hp.left
    new.bytes_out.written (Err ReadFault))
Ran coded ended limit input old new (Err refusal) =
    (new.report ≡ old.report) × (new.bytes_out.created ≡ true)
    × (old.tells ≡ true → CodesWhole coded ended limit (old.file input) [] new.hp.left new.bytes_out.written
    (Err refusal))

-- after the ports were opened, or one was not: the output is requested only after the input
abbrev pub OpensAll : List ℕ → List ℕ → Meaning → Meaning → Result (Unit {0}) Refusal → Type 0
OpensAll input output old new (Ok u) =
    new ≡ record old {
      hp = record { asked = Some input; attached = true; left = old.file input };
      bytes_out = record { asked = Some output; created = true; closed = false; written = [] };
    }
OpensAll input output old new (Err ReadFault) = new ≡ record old {
  hp = record old.hp { asked = Some input };
  read_faults = new.read_faults;
}
OpensAll input output old new (Err WriteFault) =
    new ≡ record old {
      hp = record { asked = Some input; attached = true; left = old.file input };
      bytes_out = record old.bytes_out { asked = Some output };
      write_faults = new.write_faults;
    }
OpensAll input output old new (Err (NotSync stream n)) = ⊥
OpensAll input output old new (Err (Limit n)) = ⊥
OpensAll input output old new (Err Usage) = ⊥
OpensAll input output old new (Err (Cells reason)) = ⊥
OpensAll input output old new (Err (Settings reason)) = ⊥
OpensAll input output old new (Err Memory) = ⊥

-- after the closing line and closing the output, which is closed even if the line was not written
abbrev pub Finishes : Counts → Meaning → Meaning → Result Counts Refusal → Type 0
Finishes counts old new (Ok c) =
    (c ≡ counts) × (new ≡ record old {
      bytes_out = record old.bytes_out { closed = true };
      report = record old.report {
        written = if old.tells then old.report.written
            ++ closing_line counts else old.report.written;
      };
    })
Finishes counts old new (Err refusal) =
    (refusal ≡ WriteFault) × (old.report_faults ≤ new.report_faults) × (k : ℕ) × (new ≡ record old {
      bytes_out = record old.bytes_out { closed = true };
      report = record old.report {
        written = if old.tells then old.report.written
            ++ take k (closing_line counts) else old.report.written;
      };
      write_faults = new.write_faults;
      close_faults = new.close_faults;
      report_faults = new.report_faults;
    })

-- the output is closed, and a failure of that is only counted
pub record ClosesOutput (old new : Meaning) : Type 0 where
  pub closed : new ≡ record old { bytes_out = record old.bytes_out { closed = true }; close_faults = new.close_faults }
  pub later : old.close_faults ≤ new.close_faults

-- after a refusal in the work the output is flushed, which may turn it into a write fault, and then closed in any case
pub record ClosesRefused (refusal : Refusal) (old new : Meaning) (result : Refusal) : Type 0 where
  pub flushed : Meaning
  pub flushes : FlushesOnly old flushed
  pub settles : Settles refusal old flushed result
  pub closes : ClosesOutput flushed new

-- the status of an outcome
abbrev pub outcome_status : Result Counts Refusal → ℕ
outcome_status (Ok counts) = 0
outcome_status (Err refusal) = refusal_status refusal

-- the state after the work is the end, or the text of a refusal is written after it
abbrev pub Tells : Meaning → Meaning → Result Counts Refusal → Type 0
Tells mid new (Ok counts) = new ≡ mid
Tells mid new (Err refusal) = WritesText (refusal_text refusal) mid new

-- a run has one outcome, which determines the status, the ports and the report
pub record RunsCoding (coded ended : List (List ℕ) → List ℕ) (limit : ℕ) (input output : List ℕ) (old new : Meaning)
    (status : ℕ) : Type 0 where
  pub outcome : Result Counts Refusal
  pub mid : Meaning
  pub status_is : status ≡ outcome_status outcome
  pub asks : AsksPorts input output old mid
  pub cause : HasEndCause (old.tells ≡ true → AcceptsFirst limit (old.file input) (whole_packets (old.file input))) old
      mid outcome
  pub ran : Ran coded ended limit input old mid outcome
  pub tells : Tells mid new outcome
