-- The steps of a trial after its settings, each as a relation of the station before and after it. They imply the
-- promise of the run.
use Rattle.std.specs.Prelude.{◌≡◌, ◌⊎◌, ℕ, true, false, None, Some, Result, Ok, Err}
use Rattle.station_core.specs.Meaning.{Meaning}
use Rattle.mode_set.specs.declared.settings.Settings.{Settings}
use Rattle.reception.specs.Streams.{Reception}
use Rattle.trial.specs.Outcome.{TrialGives, trial_counts}
use Rattle.cmd_base.specs.declared.refusal.Refusal.{Refusal}
use Rattle.cmd_base.specs.declared.refusal.Refusal.TheVariants.{WriteFault, Memory, Limit}
use Rattle.cmd_base.specs.Text.{refusal_status, refusal_text}
use Rattle.cmd_trial.specs.TrialCommand.{trial_lines, trial_refusal}
use Rattle.cmd_base.specs.Causes.{HasCause}
use Rattle.cmd_base.specs.Lines.{WritesLines}
use Rattle.cmd_base.specs.Report.{WritesText}

-- Report is open
pub record IsReady (m : Meaning) : Type 0 where
  pub created : m.report.created ≡ true
  pub opened : m.report.closed ≡ false

-- only what is written to Report and the counts of write faults have changed
abbrev pub ReportOnly : Meaning → Meaning → Type 0
ReportOnly old new = new ≡ record old {
  report = record old.report { written = new.report.written };
  write_faults =
      new.write_faults;
  report_faults = new.report_faults;
}

-- the trial is not refused, and its closing lines were written, or a prefix of them
pub record Prints (s : Settings) (number : ℕ) (old new : Meaning) (result : Result (Unit {0}) Refusal) : Type 0 where
  pub enough : trial_refusal s number ≡ None
  pub given : Reception
  pub gives : TrialGives s number given
  pub writes : WritesLines (trial_lines (trial_counts s number given)) old new result

-- The state after a run, by its outcome; if the trial is refused, nothing was written.
abbrev pub Ran : Settings → ℕ → Meaning → Meaning → Result (Unit {0}) Refusal → Type 0
Ran s number old new (Ok u) = Prints s number old new (Ok u)
Ran s number old new (Err WriteFault) = Prints s number old new (Err WriteFault)
Ran s number old new (Err (Limit n)) = (trial_refusal s number ≡ Some (Limit n)) × (new ≡ old)
Ran s number old new (Err refusal) = ⊥

-- the status of an outcome
abbrev pub outcome_status : Result (Unit {0}) Refusal → ℕ
outcome_status (Ok u) = 0
outcome_status (Err refusal) = refusal_status refusal

-- the state after the work is the end, or the text of a refusal is written after it
abbrev pub Tells : Meaning → Meaning → Result (Unit {0}) Refusal → Type 0
Tells mid new (Ok u) = new ≡ mid
Tells mid new (Err refusal) = WritesText (refusal_text refusal) mid new

-- a run has one outcome, which determines the status and the report
pub record RunsTrial (s : Settings) (number : ℕ) (old new : Meaning) (status : ℕ) : Type 0 where
  pub outcome : Result (Unit {0}) Refusal
  pub mid : Meaning
  pub status_is : status ≡ outcome_status outcome
  pub others : ReportOnly old mid
  pub cause : HasCause old mid outcome
  pub ran : Ran s number old mid outcome
  pub tells : Tells mid new outcome

-- the run, or lack of memory before it
abbrev pub RunsOrLacks : Settings → ℕ → Meaning → Meaning → ℕ → Type 0
RunsOrLacks s number old new status = RunsTrial s number old new status
    ⊎ ((status ≡ 7) × WritesText (refusal_text Memory) old new)
