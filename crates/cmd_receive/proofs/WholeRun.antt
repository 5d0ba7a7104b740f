-- The promise of a whole run of a command that receives.
use Rattle.std.proofs.Common.{◌≡◌, ◌≢◌, inl, inr, true, ℕ, Bool, List, [], Option, Some, None, Ok, Err, refl, ◌∙◌, sym, ap, subst, arith}
use Rattle.station_core.specs.Meaning.{Meaning, IsFresh}
use Rattle.station_core.specs.declared.ports.InPort.{InPort}
use Rattle.station_core.specs.declared.ports.InPort.TheVariants as ins
use Rattle.frame_build.specs.CellFile.{header}
use Rattle.mode_set.specs.declared.settings.Settings.{Settings as TheSettings}
use Rattle.cmd_base.specs.declared.refusal.Refusal.{Refusal}
use Rattle.cmd_base.specs.declared.refusal.Refusal.TheVariants.{Usage, Settings, ReadFault, WriteFault, NotSync, Memory, Limit, Cells}
use Rattle.std.specs.Prelude.{is_some, if◌then◌else◌}
use Rattle.std.specs.Option.{option_or}
use Rattle.cmd_base.specs.StreamForm.{form_refusal}
use Rattle.cmd_base.specs.declared.refusal.SettingsRefusal.TheVariants.{Form}
use Rattle.cmd_base.specs.Command.{Command, Unread, input_file, is_among}
use Rattle.cmd_base.specs.Run.{Run}
use Rattle.cmd_base.specs.StatedSettings.{settings_of}
use Rattle.cmd_base.specs.Text.{refusal_status, refusal_text, status_of}
use Rattle.cmd_base.proofs.Stated.{stated}
use Rattle.cmd_base.specs.Report.{WritesText}
use Rattle.cmd_base.specs.SettingsStep.{AsksSettings}
use Rattle.cmd_base.specs.FittingStep.{Accepts}
use Rattle.cmd_base.specs.Ended.{Ended}
use Rattle.cmd_base.proofs.Early.{RefusedEarly, early_ended}
use Rattle.cmd_base.proofs.Whole.{run_refused}
use Rattle.cmd_cells.specs.Commands.{SettingsDone}
use Rattle.cmd_cells.specs.Outputs.{stream_names}
use Rattle.cmd_cells.specs.Runs.{IsReady}
use Rattle.cmd_cells.proofs.Ending.{run_of}
use Rattle.cmd_cells.proofs.Ending.{ready as cells_ready}
use Rattle.cmd_receive.specs.Runs.{RunsReceiving, RunsOrLacks}
use Rattle.cmd_receive.specs.Kinds.{Kind, work_of}
use Rattle.cmd_receive.proofs.Commands.{command_of, no_lines}
use Rattle.cmd_receive.proofs.OfKinds.{KindLaws, command}

module _ {k : Kind} (laws : KindLaws k) (Own : Option TheSettings → List ℕ → Type 0) (own : (stated : Option TheSettings) (file : List ℕ) → Own stated file) (limit : ℕ) (name cells hp : List ℕ) (lp : Option (List ℕ)) (start mid new : Meaning) (fresh : IsFresh start) (asks : AsksSettings name start mid) where
  abbrev c : Command
  c = command k Own name cells hp lp

  -- ---- refused before another port is requested
  nothing : (u : Unread) → ((port : InPort) → port ≢ ins.Settings → u port ≡ input_file start.file c port) → c.PrintsSoFar limit start.file u []
  nothing u whole = no_lines laws (settings_of (start.file name)) (start.file cells) (u ins.Cells) 0 (omega arith) (whole ins.Cells (λ is. cc))

  early : (r : Refusal) → RefusedEarly c limit start mid r → is_among (status_of (Some r)) c.statuses ≡ true → Ended c limit start mid (Some r)
  early = early_ended c limit name start mid refl (inr (refl, refl)) nothing (λ file. own (settings_of (file name)) (file cells)) fresh asks

  refused_at : (r : Refusal) → Accepts name lp start mid (Err r) → Ended c limit start mid (Some r)
  refused_at Usage a = absurd a
  refused_at (Cells reason) a = absurd a
  refused_at (Settings reason) a = early (Settings reason) a refl
  refused_at ReadFault a = early ReadFault (a, asks.later) refl
  refused_at WriteFault a = absurd a
  refused_at (NotSync σ p) a = absurd a
  refused_at Memory a = early Memory a refl
  refused_at (Limit n) a = absurd a

  pub refused : (r : Refusal) → Accepts name lp start mid (Err r) → (status : ℕ) → status ≡ refusal_status r → WritesText (refusal_text r) mid new → Run c limit start new status
  refused r a status is text = subst (λ (n : ℕ). Run c limit start new n) (sym is) (run_refused c limit start mid new r (refused_at r a) text)

  -- ---- the settings were accepted
  module _ (s : TheSettings) (accepts : Accepts name lp start mid (Ok s)) where
    same_mid : mid ≡ record start { settings = mid.settings }
    same_mid = asks.others ∙ ap (λ (n : ℕ). record start { settings = mid.settings; read_faults = n }) accepts.0.0

    pub ready : IsReady (stream_names hp lp) mid
    ready = subst (IsReady (stream_names hp lp)) (sym same_mid) (cells_ready (stream_names hp lp) refl start mid.settings fresh)

    settings : SettingsDone c limit name start mid.settings
    settings = record {
      asked = accepts.0.1;
      attached = accepts.0.2;
      left = λ t. (accepts.0.3 t).0;
      read = λ t. asks.read t accepts.0.2;
      accepted = λ t. ap (λ (o : Option Refusal). option_or o (form_refusal (settings_of (start.file name)) lp)) (accepts.0.3 t).1.1
          ∙ ap (λ (o : Option TheSettings). form_refusal o lp) (is_stated t)
          ∙ ap (λ (b : Bool). if b then None else Some (Settings Form)) accepts.1;
    }
      where
        is_stated : start.tells ≡ true → settings_of (start.file name) ≡ Some s
        is_stated t = stated s (start.file name) (accepts.0.3 t).1.2

    -- the run ended with its outcome, and then a text was written or not
    finished : (old : Meaning) → old ≡ record start { settings = mid.settings } → (status : ℕ) → RunsReceiving (work_of k) s cells hp lp old new status → Run c limit start new status
    finished old same status runs =
        run_of c limit name cells (Some (header s.mode)) (stream_names hp lp) (work_of k s (is_some lp)) s.max_symbols start new mid.settings status fresh settings
        (command_of laws Own own limit name cells hp lp s start (λ t. stated s (start.file name) (accepts.0.3 t).1.2))
        (subst (λ (m : Meaning). RunsReceiving (work_of k) s cells hp lp m new status) same runs)

    pub run : (status : ℕ) → RunsOrLacks (work_of k) s cells hp lp mid new status → Run c limit start new status
    run status runs = elim runs [
      | inl r ↦ finished mid same_mid status r
      | inr lacks ↦ refused Memory accepts.0.0 status lacks.0 lacks.1
    ]
