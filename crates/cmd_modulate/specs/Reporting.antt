-- The lines written to Report at the end of a modulation.
use Rattle.std.specs.Prelude.{◌≡◌, ◌≤◌, Bool, true, Result, Ok, Err}
use Rattle.station_core.specs.Meaning.{Meaning}
use Rattle.cmd_base.specs.declared.refusal.Refusal.{Refusal}
use Rattle.cmd_base.specs.declared.refusal.Refusal.TheVariants.{WriteFault}
use Rattle.cmd_base.specs.Lines.{IsFrontOf}
use Rattle.cmd_modulate.specs.declared.counts.TransmissionCounts.{TransmissionCounts}
use Rattle.cmd_modulate.specs.ModulateCommand.{transmission_lines}

-- the closing lines are written to Report, and Cells is closed, even if that failed
pub record Finishes (two : Bool) (counts : TransmissionCounts) (old new : Meaning)
    (result : Result TransmissionCounts Refusal) : Type 0 where
  pub others : new ≡ record old {
    cells_out = record old.cells_out { closed = true };
    report = record old.report { written = new.report.written };
    write_faults = new.write_faults;
    close_faults = new.close_faults;
    report_faults = new.report_faults;
  }
  pub later_report : old.report_faults ≤ new.report_faults
  pub written : old.tells ≡ true → IsFrontOf (transmission_lines two counts) old.report.written new.report.written
      result

-- it returns the counts, or a write fault
abbrev pub IsFinish : TransmissionCounts → Result TransmissionCounts Refusal → Type 0
IsFinish counts (Ok c) = c ≡ counts
IsFinish counts (Err refusal) = refusal ≡ WriteFault
