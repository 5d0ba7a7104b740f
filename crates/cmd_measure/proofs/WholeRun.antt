-- The promise of a whole run of `measure`.
use Rattle.std.proofs.Common.{◌≡◌, ◌≢◌, inl, inr, true, ℕ, List, [], Some, Ok, Err, refl, ◌∙◌, sym, ap, subst, arith}
use Rattle.station_core.specs.Meaning.{Meaning, IsFresh}
use Rattle.mode_set.specs.declared.settings.Settings.{Settings as TheSettings}
use Rattle.cmd_base.specs.declared.refusal.Refusal.{Refusal}
use Rattle.cmd_base.specs.declared.refusal.Refusal.TheVariants.{Usage, Settings, ReadFault, WriteFault, NotSync, Memory, Limit, Cells}
use Rattle.cmd_base.specs.Command.{Command, Unread, input_file, is_among}
use Rattle.cmd_base.specs.StatedSettings.{settings_of}
use Rattle.station_core.specs.declared.ports.InPort.{InPort}
use Rattle.station_core.specs.declared.ports.InPort.TheVariants as ins
use Rattle.frame_build.specs.CellFile.{header}
use Rattle.cmd_base.specs.Run.{Run}
use Rattle.cmd_base.specs.Text.{refusal_status, refusal_text, status_of}
use Rattle.cmd_base.proofs.Stated.{stated}
use Rattle.cmd_base.specs.Report.{WritesText}
use Rattle.cmd_base.specs.SettingsStep.{AsksSettings, ReadsSettings}
use Rattle.cmd_base.specs.Ended.{Ended}
use Rattle.cmd_base.proofs.Early.{RefusedEarly, early_ended, refused_early}
use Rattle.cmd_base.proofs.Whole.{run_refused}
use Rattle.cmd_cells.specs.Commands.{SettingsDone}
use Rattle.cmd_cells.specs.Runs.{IsReady, RunsCells}
use Rattle.cmd_cells.proofs.Ending.{run_of}
use Rattle.cmd_cells.proofs.Ending.{ready as cells_ready}
use Rattle.cmd_measure.specs.MeasureCommand.{measure_command, no_names}
use Rattle.cmd_measure.specs.Working.{RunsOrLacks, measuring_work}
use Rattle.cmd_measure.proofs.Commands.{Laws, command_of, no_lines, own_laws}

module _ (limit : ℕ) (name cells : List ℕ) (start mid new : Meaning) (laws : Laws) (fresh : IsFresh start) (asks : AsksSettings name start mid) where
  abbrev c : Command
  c = measure_command name cells

  -- ---- refused before another port is requested
  early : (r : Refusal) → RefusedEarly c limit start mid r → is_among (status_of (Some r)) c.statuses ≡ true → Ended c limit start mid (Some r)
  early = early_ended c limit name start mid refl (inr (refl, refl)) nothing (λ file. own_laws laws (settings_of (file name)) (file cells)) fresh asks
    where
      nothing : (u : Unread) → ((port : InPort) → port ≢ ins.Settings → u port ≡ input_file start.file c port) → c.PrintsSoFar limit start.file u []
      nothing u whole = no_lines laws (settings_of (start.file name)) (start.file cells) (u ins.Cells) 0 (omega arith) (whole ins.Cells (λ is. cc))

  known_early : (r : Refusal) → ReadsSettings name start mid (Err r) → is_among (status_of (Some r)) c.statuses ≡ true
  known_early Usage reads = absurd reads
  known_early (Settings reason) reads = refl
  known_early ReadFault reads = refl
  known_early WriteFault reads = absurd reads
  known_early (NotSync stream n) reads = absurd reads
  known_early Memory reads = refl
  known_early (Limit n) reads = absurd reads
  known_early (Cells reason) reads = absurd reads

  pub refused : (r : Refusal) → ReadsSettings name start mid (Err r) → (status : ℕ) → status ≡ refusal_status r → WritesText (refusal_text r) mid new → Run c limit start new status
  refused r reads status is text =
      subst (λ (n : ℕ). Run c limit start new n) (sym is)
      (run_refused c limit start mid new r (early r (refused_early c limit name start mid r (λ reason e. e) asks.later reads) (known_early r reads)) text)

  -- ---- the settings were accepted
  module _ (s : TheSettings) (reads : ReadsSettings name start mid (Ok s)) where
    same_mid : mid ≡ record start { settings = mid.settings }
    same_mid = asks.others ∙ ap (λ (n : ℕ). record start { settings = mid.settings; read_faults = n }) reads.0

    pub ready : IsReady no_names mid
    ready = subst (IsReady no_names) (sym same_mid) (cells_ready no_names refl start mid.settings fresh)

    settings : SettingsDone c limit name start mid.settings
    settings = record {
      asked = reads.1;
      attached = reads.2;
      left = λ t. (reads.3 t).0;
      read = λ t. asks.read t reads.2;
      accepted = λ t. (reads.3 t).1.1;
    }

    -- the run ended with its outcome, and then a text was written or not
    finished : (old : Meaning) → old ≡ record start { settings = mid.settings } → (status : ℕ) → RunsCells (measuring_work s) s.max_symbols cells (Some (header s.mode)) no_names old new status → Run c limit start new status
    finished old same status runs =
        run_of c limit name cells (Some (header s.mode)) no_names (measuring_work s) s.max_symbols start new mid.settings status fresh settings
        (command_of laws limit name cells s start (λ t. stated s (start.file name) (reads.3 t).1.2))
        (subst (λ (m : Meaning). RunsCells (measuring_work s) s.max_symbols cells (Some (header s.mode)) no_names m new status) same runs)

    pub run : (status : ℕ) → RunsOrLacks s cells mid new status → Run c limit start new status
    run status runs = elim runs [
      | inl r ↦ finished mid same_mid status r
      | inr lacks ↦ refused Memory reads.0 status lacks.0 lacks.1
    ]
