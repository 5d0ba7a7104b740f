-- The state after a run of `trial`, and the promise of the whole run.
use Rattle.std.proofs.Common.{◌≡◌, ◌≢◌, ◌⊎◌, inl, inr, true, ℕ, ◌≤◌, List, [], ◌++◌, take, drop, Option, Some, None, Result, Ok, Err, refl, ◌∙◌, sym, ap, subst, arith}
use Rattle.std.specs.Prelude.{option_and_then}
use Rattle.std.specs.Option.{option_or}
use Rattle.std.proofs.lemmas.Bool.{true≢false}
use Rattle.station_core.specs.Meaning.{Meaning, Source, IsFresh, source_at, sink_at}
use Rattle.station_core.specs.declared.ports.InPort.{InPort}
use Rattle.station_core.specs.declared.ports.InPort.TheVariants as ins
use Rattle.station_core.specs.declared.ports.OutPort.{OutPort}
use Rattle.station_core.specs.declared.ports.OutPort.TheVariants as outs
use Rattle.mode_set.specs.declared.settings.Settings.{Settings as TheSettings}
use Rattle.symbol_parameters.specs.Spans.{exists_in, settings_in, words_before}
use Rattle.transmission.specs.SuperFrames.{super_frames}
use Rattle.trial.specs.Outcome.{at_zero, trial_counts}
use Rattle.cmd_base.specs.declared.refusal.Refusal.{Refusal}
use Rattle.cmd_base.specs.declared.refusal.Refusal.TheVariants.{Usage, Settings, ReadFault, WriteFault, NotSync, Memory, Limit, Cells}
use Rattle.cmd_base.specs.Command.{Command, IsInput, is_among, refusal_of, input_file}
use Rattle.cmd_base.specs.Run.{Run, AsksSettingsAlone}
use Rattle.cmd_base.specs.StatedSettings.{settings_of}
use Rattle.cmd_base.specs.Text.{refusal_status, refusal_text, status_of}
use Rattle.cmd_base.proofs.Stated.{stated}
use Rattle.cmd_base.specs.Causes.{HasCause}
use Rattle.cmd_base.specs.Report.{WritesText}
use Rattle.cmd_base.specs.SettingsStep.{AsksSettings, ReadsSettings}
use Rattle.cmd_base.specs.Ended.{Ended, IsCaused, IsExact, IsSettledAt, Leaves}
use Rattle.cmd_base.proofs.Early.{RefusedEarly, refused_early, early_ended}
use Rattle.cmd_base.proofs.Whole.{run_done, run_refused}
use Rattle.cmd_trial.specs.Steps.{IsReady, Ran, ReportOnly, RunsOrLacks, Tells, outcome_status}
use Rattle.cmd_trial.proofs.Laws.{Laws, own_laws}
use Rattle.cmd_trial.specs.TrialCommand.{trial_command, trial_lines, trial_refusal, TrialPrints, AreTrialLines}

-- the refusal of a run, if any
abbrev refusal_in : Result (Unit {0}) Refusal → Option Refusal
refusal_in (Ok u) = None
refusal_in (Err r) = Some r

refused_twice : (n : ℕ) → ◌≡◌ {A = Option Refusal} (Some (Limit n)) None → ⊥
refused_twice n e = cc

module _ (limit : ℕ) (name : List ℕ) (number : ℕ) (start mid : Meaning) (laws : Laws) (fresh : IsFresh start) (asks : AsksSettings name start mid) where
  abbrev c : Command
  c = trial_command name number

  -- ---- refused before the work
  early : (r : Refusal) → RefusedEarly c limit start mid r → is_among (status_of (Some r)) c.statuses ≡ true → Ended c limit start mid (Some r)
  early = early_ended c limit name start mid refl (inr (refl, refl)) (λ u whole. refl) (λ file. own_laws laws (settings_of (file name)) number) fresh asks

  known_early : (r : Refusal) → ReadsSettings name start mid (Err r) → is_among (status_of (Some r)) c.statuses ≡ true
  known_early Usage reads = absurd reads
  known_early (Cells reason) reads = absurd reads
  known_early (Settings reason) reads = refl
  known_early ReadFault reads = refl
  known_early WriteFault reads = absurd reads
  known_early (NotSync stream n) reads = absurd reads
  known_early Memory reads = refl
  known_early (Limit n) reads = absurd reads

  pub refused : (r : Refusal) → start.read_faults ≤ mid.read_faults → ReadsSettings name start mid (Err r) → (status : ℕ) (new : Meaning) → status ≡ refusal_status r
      → WritesText (refusal_text r) mid new → Run c limit start new status
  refused r later reads status new is text =
      subst (λ (n : ℕ). Run c limit start new n) (sym is)
      (run_refused c limit start mid new r (early r (refused_early c limit name start mid r (λ reason e. e) later reads) (known_early r reads)) text)

  -- ---- the settings were accepted
  module _ (s : TheSettings) (accepts : ReadsSettings name start mid (Ok s)) where
    same_mid : mid ≡ record start { settings = mid.settings }
    same_mid = asks.others ∙ ap (λ (n : ℕ). record start { settings = mid.settings; read_faults = n }) accepts.0

    pub ready : IsReady mid
    ready = subst IsReady (sym same_mid) (record { created = fresh.report; opened = fresh.report_open })

    telling : mid.tells ≡ start.tells
    telling = ap (λ (x : Meaning). x.tells) asks.others

    stated_is : start.tells ≡ true → settings_of (start.file name) ≡ Some s
    stated_is t = stated s (start.file name) (accepts.3 t).1.2

    accepted : start.tells ≡ true → c.early_refusal start.file ≡ None
    accepted t = (accepts.3 t).1.1

    refusal_is : start.tells ≡ true → refusal_of limit start.file c ≡ trial_refusal s number
    refusal_is t =
        ap (λ (o : Option Refusal). option_or o (option_and_then (λ z. trial_refusal z number) (settings_of (start.file name)))) (accepted t)
        ∙ ap (λ (o : Option TheSettings). option_and_then (λ z. trial_refusal z number) o) (stated_is t)

    -- ---- after the work
    module _ (end : Meaning) (others : ReportOnly mid end) where
      abbrev by_end : (T : Type 0) (f : Meaning → T) → Type 0
      by_end T f = f end ≡ f mid

      source_same : (port : InPort) → source_at port end ≡ source_at port mid
      source_same ins.Settings = ap (λ (x : Meaning). x.settings) others
      source_same ins.Hp = ap (λ (x : Meaning). x.hp) others
      source_same ins.Lp = ap (λ (x : Meaning). x.lp) others
      source_same ins.Cells = ap (λ (x : Meaning). x.cells) others

      source_fresh : (port : InPort) → port ≢ ins.Settings → (source_at port end).asked ≡ None
      source_fresh ins.Settings other = absurd (other refl)
      source_fresh ins.Hp other = ap (λ (x : Source). x.asked) (source_same ins.Hp ∙ ap (λ (x : Meaning). x.hp) asks.others) ∙ fresh.hp.asked
      source_fresh ins.Lp other = ap (λ (x : Source). x.asked) (source_same ins.Lp ∙ ap (λ (x : Meaning). x.lp) asks.others) ∙ fresh.lp.asked
      source_fresh ins.Cells other = ap (λ (x : Source). x.asked) (source_same ins.Cells ∙ ap (λ (x : Meaning). x.cells) asks.others) ∙ fresh.cells.asked

      sink_fresh : (port : OutPort) → (sink_at port end).asked ≡ None
      sink_fresh outs.Cells = ap (λ (x : Meaning). x.cells_out.asked) others ∙ ap (λ (x : Meaning). x.cells_out.asked) asks.others ∙ fresh.cells_out.asked
      sink_fresh outs.Hp = ap (λ (x : Meaning). x.hp_out.asked) others ∙ ap (λ (x : Meaning). x.hp_out.asked) asks.others ∙ fresh.hp_out.asked
      sink_fresh outs.Lp = ap (λ (x : Meaning). x.lp_out.asked) others ∙ ap (λ (x : Meaning). x.lp_out.asked) asks.others ∙ fresh.lp_out.asked
      sink_fresh outs.Bytes = ap (λ (x : Meaning). x.bytes_out.asked) others ∙ ap (λ (x : Meaning). x.bytes_out.asked) asks.others ∙ fresh.bytes_out.asked
      sink_fresh outs.Report = ap (λ (x : Meaning). x.report.asked) others ∙ ap (λ (x : Meaning). x.report.asked) asks.others ∙ fresh.report_asked

      alone : AsksSettingsAlone end
      alone = record { sources = source_fresh; sinks = sink_fresh }

      sources_asked : (port : InPort) → ((source_at port end).asked ≡ None) ⊎ ((source_at port end).asked ≡ c.reads port)
      sources_asked ins.Settings = inr (ap (λ (x : Source). x.asked) (source_same ins.Settings) ∙ accepts.1)
      sources_asked ins.Hp = inl (source_fresh ins.Hp (λ e. cc))
      sources_asked ins.Lp = inl (source_fresh ins.Lp (λ e. cc))
      sources_asked ins.Cells = inl (source_fresh ins.Cells (λ e. cc))

      attached_at : (port : InPort) → IsInput c port → (source_at port end).attached ≡ true
      attached_at ins.Settings is = ap (λ (x : Source). x.attached) (source_same ins.Settings) ∙ accepts.2
      attached_at ins.Hp is = absurd (true≢false (sym is))
      attached_at ins.Lp is = absurd (true≢false (sym is))
      attached_at ins.Cells is = absurd (true≢false (sym is))

      read_at : start.tells ≡ true → (port : InPort) → IsInput c port → (source_at port end).left ≡ []
      read_at t ins.Settings is = ap (λ (x : Source). x.left) (source_same ins.Settings) ∙ (accepts.3 t).0
      read_at t ins.Hp is = absurd (true≢false (sym is))
      read_at t ins.Lp is = absurd (true≢false (sym is))
      read_at t ins.Cells is = absurd (true≢false (sym is))

      took : start.tells ≡ true → (port : InPort) → IsInput c port → (k : ℕ) × (k ≤ c.most_taken limit start.file port) × ((source_at port end).left ≡ drop k (input_file start.file c port))
      took t ins.Settings is =
          let r = asks.read t accepts.2 in
          (r.0, r.1, ap (λ (x : Source). x.left) (source_same ins.Settings) ∙ r.2)
      took t ins.Hp is = absurd (true≢false (sym is))
      took t ins.Lp is = absurd (true≢false (sym is))
      took t ins.Cells is = absurd (true≢false (sym is))

      input_is : (port : InPort) → port ≢ ins.Settings → IsInput c port → ⊥
      input_is ins.Settings other is = other refl
      input_is ins.Hp other is = true≢false (sym is)
      input_is ins.Lp other is = true≢false (sym is)
      input_is ins.Cells other is = true≢false (sym is)

      ended : (r : Option Refusal) → is_among (status_of r) c.statuses ≡ true → IsCaused c limit start end r → IsSettledAt start end r → start.write_faults ≤ end.write_faults → start.report_faults ≤ end.report_faults
          → IsExact c limit start r → Leaves c limit start end r → Ended c limit start end r
      ended r known caused settled writes reports exact leaves = record {
        known = known;
        caused = caused;
        settled = settled;
        later_reads = omega (arith, ap (λ (x : Meaning). x.read_faults) others, accepts.0);
        later_writes = writes;
        later_report = reports;
        exact = exact;
        sources = sources_asked;
        sinks = λ port. inl (sink_fresh port);
        settings_first = λ is. inl alone;
        lp_behind_hp = inl (source_fresh ins.Lp (λ e. cc));
        outputs_behind_inputs = λ out. inl (sink_fresh out);
        unasked = λ out is none. absurd (true≢false (sym is));
        outputs_behind_header = λ t out. inr tt;
        lp_made_behind_hp = inl (sink_fresh outs.Lp);
        work_behind_outputs = λ t port other is. absurd (input_is port other is);
        taken = λ t port is attached. took t port is;
        opened = λ is. attached_at;
        read_out = λ is t. read_at t;
        closed = λ out is made. absurd (true≢false (sym is));
        no_report = refl;
        same_telling = ap (λ (x : Meaning). x.tells) others ∙ telling;
        same_files = ap (λ (x : Meaning). x.file) others ∙ ap (λ (x : Meaning). x.file) asks.others;
        report_open = ap (λ (x : Meaning). x.report.closed) others ∙ ap (λ (x : Meaning). x.report.closed) asks.others;
        leaves = leaves;
        own = λ file. own_laws laws (settings_of (file name)) number;
      }

    -- ---- the state for each outcome
    module _ (end : Meaning) (others : ReportOnly mid end) where
      same_writes : mid.write_faults ≡ start.write_faults
      same_writes = ap (λ (x : Meaning). x.write_faults) asks.others

      same_reports : mid.report_faults ≡ start.report_faults
      same_reports = ap (λ (x : Meaning). x.report_faults) asks.others

      same_reads : end.read_faults ≡ start.read_faults
      same_reads = ap (λ (x : Meaning). x.read_faults) others ∙ accepts.0

      same_closes : end.close_faults ≡ start.close_faults
      same_closes = ap (λ (x : Meaning). x.close_faults) others ∙ ap (λ (x : Meaning). x.close_faults) asks.others

      empty : start.tells ≡ true → (l : List ℕ) → mid.report.written ++ l ≡ l
      empty t l = ap (λ (x : Meaning). x.report.written ++ l) asks.others ∙ ap (λ (w : List ℕ). w ++ l) (fresh.report_empty t)

      -- the super-frames do not depend on the start of the receiver
      from_zero : trial_refusal (at_zero s) number ≡ trial_refusal s number
      unfolding super_frames exists_in settings_in words_before
      from_zero = refl

      prints : trial_refusal s number ≡ None → (lines : List ℕ) → AreTrialLines s number lines → TrialPrints s number lines
      prints enough lines are = record { enough = λ e. are; few = λ few. absurd (few enough) }

      nothing_refused : trial_refusal (at_zero s) number ≡ None → start.tells ≡ true → refusal_of limit start.file c ≡ None
      nothing_refused enough t = refusal_is t ∙ sym from_zero ∙ enough

      limit_refused : (n : ℕ) → trial_refusal (at_zero s) number ≡ Some (Limit n) → start.tells ≡ true → refusal_of limit start.file c ≡ Some (Limit n)
      limit_refused n few t = refusal_is t ∙ sym from_zero ∙ few

      by_outcome : (o : Result (Unit {0}) Refusal) → HasCause mid end o → Ran (at_zero s) number mid end o → Ended c limit start end (refusal_in o)
      by_outcome (Ok u) cause ran = ended end others None refl (same_reads, cause.writes ∙ same_writes, same_closes) tt (omega (arith, cause.writes, same_writes)) (omega (arith, ran.writes.later_report, same_reports))
          (nothing_refused ran.enough)
          (record {
            made = λ out is. absurd (true≢false (sym is));
            outputs = λ t out is. absurd (true≢false (sym is));
            report = λ t. (
              s,
              stated_is t,
              prints (sym from_zero ∙ ran.enough) end.report.written
                  (ran.given, ran.gives, ran.writes.written (telling ∙ t) ∙ empty t (trial_lines (trial_counts (at_zero s) number ran.given))),
            );
          })
      by_outcome (Err Usage) cause ran = absurd ran
      by_outcome (Err (Cells reason)) cause ran = absurd ran
      by_outcome (Err (Settings reason)) cause ran = absurd ran
      by_outcome (Err ReadFault) cause ran = absurd ran
      by_outcome (Err WriteFault) cause ran = ended end others (Some WriteFault) refl (inl same_reads, inl (omega (arith, cause.1, same_writes))) tt (omega (arith, cause.2, same_writes)) (omega (arith, ran.writes.later_report, same_reports))
          tt
          (record {
            outputs = λ t out is. absurd (true≢false (sym is));
            report = λ t.
                let lines : List ℕ = trial_lines (trial_counts (at_zero s) number ran.given) in
                let w = ran.writes.written (telling ∙ t) in
                (lines, (s, stated_is t, prints (sym from_zero ∙ ran.enough) lines (ran.given, ran.gives, refl)), (w.0, w.1 ∙ empty t (take w.0 lines)));
          })
      by_outcome (Err (NotSync stream n)) cause ran = absurd ran
      by_outcome (Err Memory) cause ran = absurd ran
      by_outcome (Err (Limit n)) cause ran = ended end others (Some (Limit n)) refl same_reads
          (record { settled = ap (λ (x : Meaning). x.pending) others ∙ ap (λ (x : Meaning). x.pending) asks.others ∙ fresh.settled; writes = ap (λ (x : Meaning). x.write_faults) ran.1 ∙ same_writes })
          (omega (arith, ap (λ (x : Meaning). x.write_faults) ran.1, same_writes)) (omega (arith, ap (λ (x : Meaning). x.report_faults) ran.1, same_reports))
          (limit_refused n ran.0)
          (record {
            made = λ out is. absurd (true≢false (sym is));
            outputs = λ t out is. absurd (true≢false (sym is));
            report = λ t. (
              s,
              stated_is t,
              record {
                enough = λ enough. absurd (refused_twice n (sym ran.0 ∙ from_zero ∙ enough));
                few = λ few. ap (λ (x : Meaning). x.report.written) ran.1 ∙ ap (λ (x : Meaning). x.report.written) asks.others ∙ fresh.report_empty t;
              },
            );
          })

    told : (new end : Meaning) (o : Result (Unit {0}) Refusal) → Ended c limit start end (refusal_in o) → Tells end new o → Run c limit start new (outcome_status o)
    told new end (Ok u) e same = subst (λ (m : Meaning). Run c limit start m 0) (sym same) (run_done c limit start end e)
    told new end (Err r) e text = run_refused c limit start end new r e text

    pub run_of : (status : ℕ) (new : Meaning) → RunsOrLacks (at_zero s) number mid new status → Run c limit start new status
    run_of status new (inl runs) =
        subst (λ (n : ℕ). Run c limit start new n) (sym runs.status_is)
        (told new runs.mid runs.outcome (by_outcome runs.mid runs.others runs.outcome runs.cause runs.ran) runs.tells)
    run_of status new (inr lacks) =
        subst (λ (n : ℕ). Run c limit start new n) (sym lacks.0)
        (run_refused c limit start mid new Memory (early Memory accepts.0 refl) lacks.1)
