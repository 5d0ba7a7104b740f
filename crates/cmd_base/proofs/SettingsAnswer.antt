-- From the bytes read of the settings file to the result of the step.
use Rattle.std.proofs.Common.{◌≡◌, ◌+◌, true, ℕ, List, length, drop, ◌∙◌, arith, Result, Ok, Err, Some}
use Rattle.std.proofs.lemmas.List.{drop_all}
use Rattle.station_core.specs.Meaning.{Meaning}
use Rattle.mode_set.specs.declared.settings.Settings.{Settings as TheSettings}
use Rattle.cmd_base.specs.declared.refusal.Refusal.{Refusal}
use Rattle.cmd_base.specs.declared.refusal.Refusal.TheVariants.{Usage, Settings, ReadFault, WriteFault, NotSync, Memory, Limit, Cells}
use Rattle.cmd_base.specs.SettingsFile.{most_settings}
use Rattle.cmd_base.specs.Reading.{ReadsFront}
use Rattle.cmd_base.specs.SettingsStep.{IsCheck, Checks, ReadsSettings}

pub answered : (name : List ℕ) (old new : Meaning) (n : ℕ) (bytes : List ℕ)
    → new.read_faults ≡ old.read_faults → new.settings.asked ≡ Some name → new.settings.attached ≡ true → new.settings.left ≡ drop n (old.file name)
    → (old.tells ≡ true → ReadsFront (old.file name) (most_settings + 1) n bytes)
    → (answer : Result TheSettings Refusal) → IsCheck answer → ((file : List ℕ) → ReadsFront file (most_settings + 1) n bytes → Checks file answer)
    → ReadsSettings name old new answer
answered name old new n bytes faults asked attached left reads (Ok settings) is checks = (
  faults,
  asked,
  attached,
  (λ t.
      let read = reads t in
      let accepted = checks (old.file name) read in
      let all : n ≡ length (old.file name) = read.all (omega (arith, read.within, accepted.0)) in
      (left ∙ drop_all n (old.file name) (omega (arith, all)), accepted)),
)
answered name old new n bytes faults asked attached left reads (Err Usage) is checks = is
answered name old new n bytes faults asked attached left reads (Err (Cells reason)) is checks = is
answered name old new n bytes faults asked attached left reads (Err (Settings reason)) is checks = (faults, (λ t. checks (old.file name) (reads t)))
answered name old new n bytes faults asked attached left reads (Err ReadFault) is checks = absurd is
answered name old new n bytes faults asked attached left reads (Err WriteFault) is checks = is
answered name old new n bytes faults asked attached left reads (Err (NotSync stream number)) is checks = is
answered name old new n bytes faults asked attached left reads (Err Memory) is checks = faults
answered name old new n bytes faults asked attached left reads (Err (Limit number)) is checks = is
