-- The state after a trial has run.
use Rattle.std.proofs.Common.{◌≡◌, ℕ, None, Result, Ok, Err, sym, subst}
use Rattle.station_core.specs.Meaning.{Meaning}
use Rattle.mode_set.specs.declared.settings.Settings.{Settings}
use Rattle.reception.specs.Streams.{Reception}
use Rattle.trial.specs.declared.counts.TrialCounts.{TrialCounts}
use Rattle.trial.specs.Outcome.{TrialGives, trial_counts}
use Rattle.cmd_base.specs.declared.refusal.Refusal.{Refusal}
use Rattle.cmd_base.specs.declared.refusal.Refusal.TheVariants.{WriteFault}
use Rattle.cmd_trial.specs.TrialCommand.{trial_lines, trial_refusal}
use Rattle.cmd_base.specs.Lines.{IsWriting, WritesLines}
use Rattle.cmd_trial.specs.Steps.{Prints, Ran}

module _ (s : Settings) (number : ℕ) (old new : Meaning) (enough : trial_refusal s number ≡ None) (r : Reception) (gives : TrialGives s number r)
    (counts : TrialCounts) (same : counts ≡ trial_counts s number r) where
  printed : (result : Result (Unit {0}) Refusal) → WritesLines (trial_lines counts) old new result → Prints s number old new result
  printed result writes = record {
    enough = enough;
    given = r;
    gives = gives;
    writes = subst (λ (x : TrialCounts). WritesLines (trial_lines x) old new result) same writes;
  }

  pub ran_by : (result : Result (Unit {0}) Refusal) → IsWriting result → WritesLines (trial_lines counts) old new result → Ran s number old new result
  ran_by (Ok u) kind writes = printed (Ok u) writes
  ran_by (Err refusal) kind writes = subst (λ (x : Refusal). Ran s number old new (Err x)) (sym kind) (printed (Err WriteFault) (subst (λ (x : Refusal). WritesLines (trial_lines counts) old new (Err x)) kind writes))
