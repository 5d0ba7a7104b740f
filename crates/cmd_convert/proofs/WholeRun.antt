-- The promise of a whole run of a conversion.
use Rattle.std.proofs.Common.{◌≡◌, inl, inr, true, ℕ, List, Some, Ok, Err, refl, ◌∙◌, sym, ap, subst}
use Rattle.station_core.specs.Meaning.{Meaning, IsFresh}
use Rattle.mode_set.specs.declared.modes.Mode.{Mode}
use Rattle.mode_set.specs.declared.settings.Settings.{Settings as TheSettings}
use Rattle.cmd_base.specs.declared.refusal.Refusal.{Refusal}
use Rattle.cmd_base.specs.declared.refusal.Refusal.TheVariants.{Usage, Settings, ReadFault, WriteFault, NotSync, Memory, Limit, Cells}
use Rattle.cmd_base.specs.Command.{Command, Files, is_among}
use Rattle.cmd_base.specs.Run.{Run}
use Rattle.cmd_base.specs.Text.{refusal_status, refusal_text, status_of}
use Rattle.cmd_base.proofs.Stated.{stated}
use Rattle.cmd_base.specs.Report.{WritesText}
use Rattle.cmd_base.specs.SettingsStep.{AsksSettings, ReadsSettings}
use Rattle.cmd_base.specs.Ended.{Ended}
use Rattle.cmd_base.proofs.Early.{RefusedEarly, early_ended, refused_early}
use Rattle.cmd_base.proofs.Whole.{run_refused}
use Rattle.cmd_cells.specs.Commands.{SettingsDone}
use Rattle.cmd_cells.specs.Outputs.{cell_names}
use Rattle.cmd_cells.specs.Runs.{IsReady}
use Rattle.cmd_cells.proofs.Ending.{run_of}
use Rattle.cmd_cells.proofs.Ending.{ready as cells_ready}
use Rattle.cmd_convert.specs.Conversion.{Conversion}
use Rattle.cmd_convert.specs.ConversionCommand.{conversion_command}
use Rattle.cmd_convert.specs.Runs.{RunsConversion, RunsOrLacks}
use Rattle.cmd_convert.specs.Working.{conversion_work}
use Rattle.cmd_convert.proofs.Commands.{IsSound, command_of}

module _ (by : Mode → Conversion) (statuses : List ℕ) (sound : IsSound by statuses) (laws : Files → Type 0) (limit : ℕ) (name old_name new_name : List ℕ) (start mid new : Meaning) (own : (file : Files) → laws file) (fresh : IsFresh start)
    (asks : AsksSettings name start mid) where
  abbrev c : Command
  c = conversion_command by statuses laws name old_name new_name

  -- ---- refused before another port is requested
  early : (r : Refusal) → RefusedEarly c limit start mid r → is_among (status_of (Some r)) c.statuses ≡ true → Ended c limit start mid (Some r)
  early = early_ended c limit name start mid refl (inr (refl, refl)) (λ u whole. refl) own fresh asks

  known_early : (r : Refusal) → ReadsSettings name start mid (Err r) → is_among (status_of (Some r)) statuses ≡ true
  known_early Usage reads = absurd reads
  known_early (Settings reason) reads = sound.settings
  known_early ReadFault reads = sound.read_fault
  known_early WriteFault reads = absurd reads
  known_early (NotSync stream n) reads = absurd reads
  known_early Memory reads = sound.memory
  known_early (Limit n) reads = absurd reads
  known_early (Cells reason) reads = absurd reads

  pub refused : (r : Refusal) → ReadsSettings name start mid (Err r) → (status : ℕ) → status ≡ refusal_status r → WritesText (refusal_text r) mid new → Run c limit start new status
  refused r reads status is text =
      subst (λ (n : ℕ). Run c limit start new n) (sym is)
      (run_refused c limit start mid new r (early r (refused_early c limit name start mid r (λ reason e. e) asks.later reads) (known_early r reads)) text)

  -- ---- the settings were accepted
  module _ (s : TheSettings) (reads : ReadsSettings name start mid (Ok s)) where
    same_mid : mid ≡ record start { settings = mid.settings }
    same_mid = asks.others ∙ ap (λ (n : ℕ). record start { settings = mid.settings; read_faults = n }) reads.0

    pub ready : IsReady (cell_names new_name) mid
    ready = subst (IsReady (cell_names new_name)) (sym same_mid) (cells_ready (cell_names new_name) refl start mid.settings fresh)

    settings : SettingsDone c limit name start mid.settings
    settings = record {
      asked = reads.1;
      attached = reads.2;
      left = λ t. (reads.3 t).0;
      read = λ t. asks.read t reads.2;
      accepted = λ t. (reads.3 t).1.1;
    }

    -- the run ended with its outcome, and then a text was written or not
    finished : (old : Meaning) → old ≡ record start { settings = mid.settings } → (status : ℕ) → RunsConversion (by s.mode) s.max_symbols old_name new_name old new status → Run c limit start new status
    finished old same status runs =
        run_of c limit name old_name (by s.mode).old_header (cell_names new_name) (conversion_work (by s.mode)) s.max_symbols start new mid.settings status fresh settings
        (command_of by statuses sound laws limit name old_name new_name s start (λ t. stated s (start.file name) (reads.3 t).1.2) own)
        (subst (λ (m : Meaning). RunsConversion (by s.mode) s.max_symbols old_name new_name m new status) same runs)

    pub run : (status : ℕ) → RunsOrLacks (by s.mode) s.max_symbols old_name new_name mid new status → Run c limit start new status
    run status runs = elim runs [
      | inl r ↦ finished mid same_mid status r
      | inr lacks ↦ refused Memory reads.0 status lacks.0 lacks.1
    ]
