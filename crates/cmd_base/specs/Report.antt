-- The text written to Report when a run ends with a refusal.
use Rattle.std.specs.Prelude.{◌≡◌, ◌≤◌, ◌++◌, ℕ, true, List, take}
use Rattle.station_core.specs.Meaning.{Meaning}
use Rattle.station_core.specs.Causes.{Rose}

-- the text is written to Report, or a prefix of it if a write to Report failed
pub record WritesText (text : List ℕ) (old new : Meaning) : Type 0 where
  pub others : new ≡ record old {
    report = record old.report { written = new.report.written };
    write_faults
        = new.write_faults;
    report_faults = new.report_faults;
  }
  pub later : old.write_faults ≤ new.write_faults
  pub later_report : old.report_faults ≤ new.report_faults
  pub front : old.tells ≡ true → (k : ℕ) × (new.report.written ≡ old.report.written ++ take k text)
  -- no other write has failed
  pub kept : (Rose old.report_faults new.report_faults → ⊥) → new.write_faults ≡ old.write_faults
  pub whole : old.tells ≡ true → (Rose old.report_faults new.report_faults → ⊥) → new.report.written
      ≡ old.report.written ++ text
