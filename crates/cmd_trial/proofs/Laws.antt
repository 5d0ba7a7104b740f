-- The law of `trial`.
use Rattle.std.proofs.Common.{◌≡◌, ℕ, List, Option, refl, ◌∙◌, sym, ap}
use Rattle.mode_set.specs.declared.settings.Settings.{Settings}
use Rattle.trial.specs.Drawn.{trial_frames}
use Rattle.trial.specs.Outcome.{at_zero}
use Rattle.trial.specs.TrialsAlike.{SameFrames, SameGiven, SameCounts}
use Rattle.reception.specs.Alike.{DifferInWorkers}
use Rattle.cmd_trial.specs.TrialCommand.{TrialLaws, TrialPrints, limit_of, trial_lines, trial_refusal}

pub record Laws : Type 0 where
  pub frames : SameFrames
  pub given : SameGiven
  pub counts : SameCounts

-- from zero the settings differ only in the workers, too
from_zero : (s t : Settings) → DifferInWorkers s t → DifferInWorkers (at_zero s) (at_zero t)
from_zero s t d = record {
  mode = d.mode;
  shape = d.shape;
  hierarchy = d.hierarchy;
  rate_hp = d.rate_hp;
  rate_lp = d.rate_lp;
  guard = d.guard;
  cell_id = d.cell_id;
  start = refl;
  max_symbols = d.max_symbols;
  plan = d.plan;
}

print_alike : Laws → (s t : Settings) (number : ℕ) → DifferInWorkers s t → (lines : List ℕ) → TrialPrints s number lines → TrialPrints t number lines
print_alike laws s t number d lines p =
    let z : DifferInWorkers (at_zero s) (at_zero t) = from_zero s t d in
    let same : trial_refusal t number ≡ trial_refusal s number =
    ap (λ (n : ℕ). limit_of n (trial_frames t number)) d.max_symbols ∙ ap (limit_of s.max_symbols) (laws.frames s t number d) in record {
      enough = λ enough.
          let are = p.enough (sym same ∙ enough) in
          (are.0, laws.given (at_zero s) (at_zero t) number are.0 z are.1, are.2 ∙ ap trial_lines (sym (laws.counts (at_zero s) (at_zero t) number are.0 z)));
      few = λ few. p.few (λ none. few (same ∙ none));
    }

pub own_laws : Laws → (stated : Option Settings) (number : ℕ) → TrialLaws stated number
own_laws laws stated number = record { alike = λ s t is d. print_alike laws s t number d }
