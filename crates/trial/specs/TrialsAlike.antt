-- Trials with settings that differ only in the number of workers.
use Rattle.std.specs.Prelude.{◌≡◌, ℕ}
use Rattle.mode_set.specs.declared.settings.Settings.{Settings}
use Rattle.reception.specs.Streams.{Reception}
use Rattle.trial.specs.Drawn.{trial_frames}
use Rattle.trial.specs.Fed.{fed}
use Rattle.trial.specs.Outcome.{TrialGives, trial_counts}
use Rattle.reception.specs.Alike.{DifferInWorkers}

-- both give the same cells for a number ..
abbrev pub SameFed : Type 0
SameFed = (s t : Settings) (number : ℕ) → DifferInWorkers s t → fed t number ≡ fed s number

-- .. the same super-frames ..
abbrev pub SameFrames : Type 0
SameFrames = (s t : Settings) (number : ℕ) → DifferInWorkers s t → trial_frames t number ≡ trial_frames s number

-- .. the same reception ..
abbrev pub SameGiven : Type 0
SameGiven = (s t : Settings) (number : ℕ) (r : Reception) → DifferInWorkers s t → TrialGives s number r
    → TrialGives t number r

-- .. and the same counts
abbrev pub SameCounts : Type 0
SameCounts = (s t : Settings) (number : ℕ) (r : Reception) → DifferInWorkers s t → trial_counts t number r
    ≡ trial_counts s number r
