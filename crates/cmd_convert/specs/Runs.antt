-- A run of a conversion after its settings.
use Rattle.std.specs.Prelude.{◌≡◌, ◌⊎◌, ℕ, List}
use Rattle.station_core.specs.Meaning.{Meaning}
use Rattle.cmd_base.specs.declared.refusal.Refusal.TheVariants.{Memory}
use Rattle.cmd_base.specs.Text.{refusal_text}
use Rattle.cmd_base.specs.Report.{WritesText}
use Rattle.cmd_cells.specs.Outputs.{cell_names}
use Rattle.cmd_cells.specs.Runs.{RunsCells}
use Rattle.cmd_convert.specs.Conversion.{Conversion}
use Rattle.cmd_convert.specs.Working.{conversion_work}

-- the old cells were converted
abbrev pub RunsConversion : Conversion → ℕ → List ℕ → List ℕ → Meaning → Meaning → ℕ → Type 0
RunsConversion c most old_name new_name old new status = RunsCells (conversion_work c) most old_name c.old_header
    (cell_names new_name) old new status

-- or memory was lacking before a port was requested
abbrev pub RunsOrLacks : Conversion → ℕ → List ℕ → List ℕ → Meaning → Meaning → ℕ → Type 0
RunsOrLacks c most old_name new_name old new status = RunsConversion c most old_name new_name old new status
    ⊎ ((status ≡ 7) × WritesText (refusal_text Memory) old new)
