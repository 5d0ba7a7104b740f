-- Lines written to Report.
use Rattle.std.specs.Prelude.{◌≡◌, ◌≤◌, ℕ, true, List, ◌++◌, take, Result, Ok, Err}
use Rattle.station_core.specs.Meaning.{Meaning}
use Rattle.cmd_base.specs.declared.refusal.Refusal.{Refusal}
use Rattle.cmd_base.specs.declared.refusal.Refusal.TheVariants.{WriteFault}

-- a text is written whole, or a prefix of it if a write failed
abbrev pub IsFrontOf : {T : Type 0} → List ℕ → List ℕ → List ℕ → Result T Refusal → Type 0
IsFrontOf text before after (Ok value) = after ≡ before ++ text
IsFrontOf text before after (Err refusal) = (k : ℕ) × (after ≡ before ++ take k text)

-- lines are written to Report
pub record WritesLines (text : List ℕ) (old new : Meaning) (result : Result (Unit {0}) Refusal) : Type 0 where
  pub others : new ≡ record old {
    report = record old.report { written = new.report.written };
    write_faults
        = new.write_faults;
    report_faults = new.report_faults;
  }
  pub later_report : old.report_faults ≤ new.report_faults
  pub written : old.tells ≡ true → IsFrontOf text old.report.written new.report.written result

-- only a write can fail
abbrev pub IsWriting : {T : Type 0} → Result T Refusal → Type 0
IsWriting (Ok value) = Unit {0}
IsWriting (Err refusal) = refusal ≡ WriteFault
