-- The promise of a whole run of `modulate`.
use Rattle.std.proofs.Common.{◌≡◌, inl, inr, true, ℕ, List, Option, Some, Result, Ok, Err, refl, ◌∙◌, sym, ap, subst}
use Rattle.station_core.specs.Meaning.{Meaning, IsFresh}
use Rattle.mode_set.specs.declared.settings.Settings.{Settings as TheSettings}
use Rattle.cmd_base.specs.declared.refusal.Refusal.{Refusal}
use Rattle.cmd_base.specs.declared.refusal.Refusal.TheVariants.{Usage, Settings, ReadFault, WriteFault, NotSync, Memory, Limit, Cells}
use Rattle.cmd_base.specs.Command.{Command, is_among}
use Rattle.cmd_base.specs.Run.{Run}
use Rattle.cmd_base.specs.Text.{refusal_status, refusal_text, status_of}
use Rattle.cmd_base.proofs.Stated.{stated}
use Rattle.cmd_base.specs.Ended.{Ended}
use Rattle.cmd_base.specs.FittingStep.{Accepts}
use Rattle.cmd_base.specs.Report.{WritesText}
use Rattle.cmd_base.specs.SettingsStep.{AsksSettings}
use Rattle.cmd_base.proofs.Early.{RefusedEarly, early_ended}
use Rattle.cmd_base.proofs.Whole.{run_done, run_refused}
use Rattle.cmd_modulate.specs.declared.counts.TransmissionCounts.{TransmissionCounts}
use Rattle.cmd_modulate.specs.ModulateCommand.{modulate_command}
use Rattle.cmd_modulate.specs.Steps.{IsReady, RunsModulation, RunsOrLacks, Tells, outcome_status}
use Rattle.cmd_modulate.proofs.Ending.{SettingsDone, by_outcome, refusal_in}

module _ (limit : ℕ) (name hp : List ℕ) (lp : Option (List ℕ)) (cells : List ℕ) (start mid new : Meaning) (fresh : IsFresh start) (asks : AsksSettings name start mid) where
  abbrev c : Command
  c = modulate_command name hp lp cells

  -- ---- refused before another port is requested
  early : (r : Refusal) → Accepts name lp start mid (Err r) → RefusedEarly c limit start mid r
  early Usage a = absurd a
  early (Cells reason) a = absurd a
  early (Settings reason) a = a
  early ReadFault a = (a, asks.later)
  early WriteFault a = a
  early (NotSync σ p) a = a
  early Memory a = a
  early (Limit n) a = a

  known : (r : Refusal) → Accepts name lp start mid (Err r) → is_among (status_of (Some r)) c.statuses ≡ true
  known Usage a = absurd a
  known (Cells reason) a = absurd a
  known (Settings reason) a = refl
  known ReadFault a = refl
  known WriteFault a = absurd a
  known (NotSync σ p) a = absurd a
  known Memory a = refl
  known (Limit n) a = absurd a

  pub refused : (r : Refusal) → Accepts name lp start mid (Err r) → (status : ℕ) → status ≡ refusal_status r → WritesText (refusal_text r) mid new → Run c limit start new status
  refused r accepts status is text =
      let ended : Ended c limit start mid (Some r) =
      early_ended c limit name start mid refl (inr (refl, refl)) (λ u whole. refl) (λ file. tt) fresh asks r (early r accepts) (known r accepts) in
      subst (λ (n : ℕ). Run c limit start new n) (sym is) (run_refused c limit start mid new r ended text)

  -- ---- the settings were accepted
  module _ (s : TheSettings) (accepts : Accepts name lp start mid (Ok s)) where
    same_mid : mid ≡ record start { settings = mid.settings }
    same_mid = asks.others ∙ ap (λ (n : ℕ). record start { settings = mid.settings; read_faults = n }) accepts.0.0

    pub ready : IsReady mid
    ready = subst IsReady (sym same_mid) (record {
      hp = fresh.hp.asked;
      lp = fresh.lp.asked;
      lp_attached = fresh.lp.attached;
      cells = fresh.cells_out.asked;
      report = fresh.report;
      report_open = fresh.report_open;
      settled = fresh.settled;
    })

    settings : SettingsDone name lp s start mid.settings
    settings = record {
      asked = accepts.0.1;
      attached = accepts.0.2;
      left = λ t. (accepts.0.3 t).0;
      taken = λ t. asks.read t accepts.0.2;
      accepted = λ t. (accepts.0.3 t).1.1;
      stated = λ t. stated s (start.file name) (accepts.0.3 t).1.2;
      fits = accepts.1;
    }

    module _ (status : ℕ) where
      tells_run : (o : Result TransmissionCounts Refusal) (end : Meaning) → Ended c limit start end (refusal_in o) → Tells end new o → Run c limit start new (outcome_status o)
      tells_run (Ok counts) end ended tells = subst (λ (x : Meaning). Run c limit start x 0) (sym tells) (run_done c limit start end ended)
      tells_run (Err r) end ended tells = run_refused c limit start end new r ended tells

      run : RunsModulation s limit hp lp cells (record start { settings = mid.settings }) new status → Run c limit start new status
      run r =
          let ended = by_outcome limit name hp lp cells start mid.settings fresh s settings r.mid r.outcome r.cause r.ran in
          subst (λ (n : ℕ). Run c limit start new n) (sym r.status_is) (tells_run r.outcome r.mid ended r.tells)

      pub run_of : RunsOrLacks s limit hp lp cells mid new status → Run c limit start new status
      run_of runs = elim runs [
        | inl r ↦ run (subst (λ (m : Meaning). RunsModulation s limit hp lp cells m new status) same_mid r)
        | inr lacks ↦ refused Memory accepts.0.0 status lacks.0 lacks.1
      ]
