-- The command `trial SETTINGS NUMBER`: its lines, from its settings and its number alone.
use Rattle.std.specs.Prelude.{◌≡◌, ◌≢◌, ◌+◌, ◌*◌, ℕ, nat_lt, if◌then◌else◌, List, [], ◌∷◌, ◌++◌, codes, decimal, Option}
use Rattle.std.specs.Prelude.{Some, None, option_and_then, false}
use Rattle.mode_set.specs.declared.modes.Stream.{Stream}
use Rattle.mode_set.specs.declared.modes.Stream.TheVariants.{Hp, Lp}
use Rattle.mode_set.specs.declared.settings.Settings.{Settings}
use Rattle.reception.specs.Streams.{Reception}
use Rattle.rx_report.specs.Streams.{stream_text}
use Rattle.trial.specs.declared.counts.StreamReturn.{StreamReturn}
use Rattle.trial.specs.declared.counts.TrialCounts.{TrialCounts}
use Rattle.trial.specs.Drawn.{trial_frames}
use Rattle.trial.specs.Outcome.{TrialGives, at_zero, trial_counts}
use Rattle.reception.specs.Alike.{DifferInWorkers}
use Rattle.cmd_base.specs.Command.{Command}
use Rattle.cmd_base.specs.Ports.{by_input}
use Rattle.cmd_base.specs.SettingsFile.{most_settings, settings_refusal}
use Rattle.cmd_base.specs.StatedSettings.{settings_of}
use Rattle.cmd_base.specs.declared.refusal.Refusal.{Refusal}
use Rattle.cmd_base.specs.declared.refusal.Refusal.TheVariants.{Limit}

-- the limit of a trial: no number of super-frames carries its packets, or they have more symbols than the settings
-- allow
abbrev pub limit_of : ℕ → Option ℕ → Option Refusal
limit_of most None = Some (Limit most)
limit_of most (Some n) = if nat_lt most (272 * n) then Some (Limit most) else None

-- the refusal of a trial, if any
abbrev pub trial_refusal : Settings → ℕ → Option Refusal
trial_refusal s number = limit_of s.max_symbols (trial_frames s number)

-- the line for the cells fed
abbrev pub cells_line : TrialCounts → List ℕ
cells_line counts = codes "cells " ++ decimal counts.cells ++ codes "\n"

-- the line for the packets of a stream
abbrev pub return_line : Stream → StreamReturn → List ℕ
return_line σ r = stream_text σ ++ codes " packets " ++ decimal r.packets ++ codes " back " ++ decimal r.back
    ++ codes " sum " ++ decimal r.sum ++ codes "\n"

-- the line for the packets of LP, if it exists
abbrev pub lp_return_line : Option StreamReturn → List ℕ
lp_return_line None = []
lp_return_line (Some r) = return_line Lp r

-- the closing lines of a trial
abbrev pub trial_lines : TrialCounts → List ℕ
trial_lines counts = cells_line counts ++ (return_line Hp counts.hp ++ lp_return_line counts.lp)

-- the lines of the trial of this number, which count the reception of the cells fed
abbrev pub AreTrialLines : Settings → ℕ → List ℕ → Type 0
AreTrialLines s number lines = (r : Reception) × TrialGives (at_zero s) number r
    × (lines ≡ trial_lines (trial_counts (at_zero s) number r))

-- the lines of a trial with these settings; none if it is refused
pub record TrialPrints (s : Settings) (number : ℕ) (lines : List ℕ) : Type 0 where
  pub enough : trial_refusal s number ≡ None → AreTrialLines s number lines
  pub few : trial_refusal s number ≢ None → lines ≡ []

-- The law of `trial`, from the stated settings, if any.
pub record TrialLaws (stated : Option Settings) (number : ℕ) : Type 0 where
  -- Settings that differ only in the number of workers print the same.
  pub alike : (s t : Settings) → stated ≡ Some s → DifferInWorkers s t → (lines : List ℕ) → TrialPrints s number lines
      → TrialPrints t number lines

-- trial SETTINGS NUMBER. Only the settings file is read.
abbrev pub trial_command : List ℕ → ℕ → Command
trial_command settings number = record {
  reads = by_input (Some settings) None None None;
  writes = λ port. None;
  statuses = 0 ∷ 3 ∷ 5 ∷ 6 ∷ 7 ∷ 8 ∷ [];
  memory_at_work = false;
  LacksAtWork = λ limit file unread. ⊥;
  early_refusal = λ file. settings_refusal (file settings);
  header = λ file. None;
  work_refusal = λ limit file. option_and_then (λ s. trial_refusal s number) (settings_of (file settings));
  most_taken = λ limit file. by_input (most_settings + 1) 0 0 0;
  Comes = λ limit file port bytes. bytes ≡ [];
  Prints = λ limit file lines. (s : Settings) × (settings_of (file settings) ≡ Some s) × TrialPrints s number lines;
  ComesSoFar = λ limit file unread port bytes. bytes ≡ [];
  PrintsSoFar = λ limit file unread lines. lines ≡ [];
  Own = λ limit file. TrialLaws (settings_of (file settings)) number;
}
