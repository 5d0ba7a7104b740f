-- A run of a command that receives cells, after its settings, for given work and one or two streams.
use Rattle.std.specs.Prelude.{◌≡◌, ◌⊎◌, ℕ, Bool, List, Option, Some, is_some}
use Rattle.station_core.specs.Meaning.{Meaning}
use Rattle.mode_set.specs.declared.settings.Settings.{Settings}
use Rattle.frame_build.specs.CellFile.{header}
use Rattle.cmd_base.specs.declared.refusal.Refusal.TheVariants.{Memory}
use Rattle.cmd_base.specs.Text.{refusal_text}
use Rattle.cmd_base.specs.Report.{WritesText}
use Rattle.cmd_cells.specs.Outputs.{stream_names}
use Rattle.cmd_cells.specs.Runs.{RunsCells}
use Rattle.cmd_cells.specs.Work.{Work}

-- the work was done on the cells, and the packets of the streams written
abbrev pub RunsReceiving : (Settings → Bool → Work) → Settings → List ℕ → List ℕ → Option (List ℕ) → Meaning → Meaning
    → ℕ → Type 0
RunsReceiving work s cells hp lp old new status = RunsCells (work s (is_some lp)) s.max_symbols cells (Some
    (header s.mode)) (stream_names hp lp) old new status

-- or memory was lacking before another port was requested
abbrev pub RunsOrLacks : (Settings → Bool → Work) → Settings → List ℕ → List ℕ → Option (List ℕ) → Meaning → Meaning → ℕ
    → Type 0
RunsOrLacks work s cells hp lp old new status = RunsReceiving work s cells hp lp old new status
    ⊎ ((status ≡ 7) × WritesText (refusal_text Memory) old new)
