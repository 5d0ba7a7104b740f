-- The meaning of the counts of reports (a super-frame has 272 symbols, EN 300 744, 4.4; the reports are this project's
-- profile).
use Rattle.std.specs.Prelude.{◌≡◌, ℕ, ◌+◌, ◌*◌, ◌≤◌, nat_lt, Bool, true, false, List, length, count_by}
use Rattle.mode_set.specs.declared.modes.Stream.{Stream}
use Rattle.mode_set.specs.declared.settings.Settings.{Settings}
use Rattle.symbol_parameters.specs.Spans.{steps_before}
use Rattle.measurement.specs.SuperFrames.{is_reported_in}
use Rattle.measure_stream.specs.declared.reports.ReportCounts.{ReportCounts}

-- the counts of no reports
abbrev pub no_reports : ReportCounts
no_reports = record { all = 0; current = 0; later = 0 }

-- whether a report at step `at`, counted from 1, falls after super-frame j
abbrev pub is_reported_after : Settings → Stream → ℕ → ℕ → Bool
is_reported_after s σ j at = nat_lt (steps_before s σ (272 * (j + 1))) at

-- the number of all reports, of those in super-frame j, and of those after it
pub record AreCounted (x : ReportCounts) (s : Settings) (σ : Stream) (j : ℕ) (reports : List ℕ) : Type 0 where
  pub all : x.all ≡ length reports
  pub current : x.current ≡ count_by (is_reported_in s σ j) reports
  pub later : x.later ≡ count_by (is_reported_after s σ j) reports

-- the steps from `before` to `after` are in super-frame j, or after it
abbrev pub LieIn : Bool → Settings → Stream → ℕ → ℕ → ℕ → Type 0
LieIn true s σ j before after = (steps_before s σ (272 * j) ≤ before) × (after ≤ steps_before s σ (272 * (j + 1)))
LieIn false s σ j before after = steps_before s σ (272 * (j + 1)) ≤ before

-- no count is above n
pub record AreFew (x : ReportCounts) (n : ℕ) : Type 0 where
  pub all : x.all ≤ n
  pub current : x.current ≤ n
  pub later : x.later ≤ n
