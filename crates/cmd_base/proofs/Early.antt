-- The state after a run that was refused before another port than Settings was requested: for its settings, for lack of
-- memory, or because they could not be read.
use Rattle.std.proofs.Common.{◌≡◌, ◌≢◌, ◌⊎◌, inl, inr, true, false, ℕ, ◌≤◌, Bool, List, [], drop, refl, ◌∙◌, sym, ap, subst, arith, Option, None, Some, Err, ◌+◌}
use Rattle.std.specs.Prelude.{is_some, if◌then◌else◌}
use Rattle.std.specs.Option.{option_or}
use Rattle.std.proofs.lemmas.Bool.{true≢false}
use Rattle.station_core.specs.Meaning.{Meaning, Source, Sink, IsFresh, IsUntouched, source_at, sink_at}
use Rattle.station_core.specs.Causes.{Rose}
use Rattle.station_core.specs.declared.ports.InPort.{InPort}
use Rattle.station_core.specs.declared.ports.InPort.TheVariants as ins
use Rattle.station_core.specs.declared.ports.OutPort.{OutPort}
use Rattle.station_core.specs.declared.ports.OutPort.TheVariants as outs
use Rattle.cmd_base.specs.declared.refusal.Refusal.{Refusal}
use Rattle.cmd_base.specs.declared.refusal.SettingsRefusal.{SettingsRefusal}
use Rattle.cmd_base.specs.declared.refusal.Refusal.TheVariants.{Usage, Settings, ReadFault, WriteFault, NotSync, Memory, Limit, Cells}
use Rattle.cmd_base.specs.Command.{Command, Files, IsOutput, is_among, refusal_of, input_file, named, Unread, unread}
use Rattle.cmd_base.specs.Header.{header_refusal}
use Rattle.cmd_base.specs.Run.{AsksSettingsAlone}
use Rattle.cmd_base.specs.SettingsFile.{most_settings, settings_refusal}
use Rattle.cmd_base.specs.Text.{status_of}
use Rattle.cmd_base.specs.SettingsStep.{AsksSettings, ReadsSettings}
use Rattle.cmd_base.specs.Causes.{IsSettled}
use Rattle.cmd_base.specs.Ended.{Ended, IsCaused, IsExact, IsSettledAt, Leaves, HoldNothing}

-- A run is refused before another port is requested: for its arguments or settings, for lack of memory, or because the
-- settings could not be read. If reading stops before another input was opened, no line was printed.
abbrev pub RefusedEarly : Command → ℕ → Meaning → Meaning → Refusal → Type 0
RefusedEarly c limit old mid Usage = (mid.read_faults ≡ old.read_faults) × (old.tells ≡ true → c.early_refusal old.file ≡ Some Usage)
RefusedEarly c limit old mid (Settings reason) = (mid.read_faults ≡ old.read_faults) × (old.tells ≡ true → c.early_refusal old.file ≡ Some (Settings reason))
RefusedEarly c limit old mid ReadFault = Rose old.read_faults mid.read_faults × (old.read_faults ≤ mid.read_faults)
RefusedEarly c limit old mid WriteFault = ⊥
RefusedEarly c limit old mid (NotSync stream n) = ⊥
RefusedEarly c limit old mid Memory = mid.read_faults ≡ old.read_faults
RefusedEarly c limit old mid (Limit n) = ⊥
RefusedEarly c limit old mid (Cells reason) = ⊥

-- a refusal of the settings is a refusal of the run
pub refused_early : (c : Command) (limit : ℕ) (name : List ℕ) (old mid : Meaning) (r : Refusal)
    → ((reason : SettingsRefusal) → settings_refusal (old.file name) ≡ Some (Settings reason) → c.early_refusal old.file ≡ Some (Settings reason))
    → old.read_faults ≤ mid.read_faults → ReadsSettings name old mid (Err r) → RefusedEarly c limit old mid r
refused_early c limit name old mid Usage same later reads = absurd reads
refused_early c limit name old mid (Settings reason) same later reads = (reads.0, λ t. same reason (reads.1 t))
refused_early c limit name old mid ReadFault same later reads = (reads, later)
refused_early c limit name old mid WriteFault same later reads = reads
refused_early c limit name old mid (NotSync stream n) same later reads = reads
refused_early c limit name old mid Memory same later reads = reads
refused_early c limit name old mid (Limit n) same later reads = reads
refused_early c limit name old mid (Cells reason) same later reads = reads

module _ (c : Command) (limit : ℕ) (name : List ℕ) (old mid : Meaning) (no_report : c.writes outs.Report ≡ None)
    (reads : (mid.settings ≡ old.settings) ⊎ ((c.reads ins.Settings ≡ Some name) × (c.most_taken limit old.file ins.Settings ≡ most_settings + 1)))
    (nothing : (u : Unread) → ((port : InPort) → port ≢ ins.Settings → u port ≡ input_file old.file c port) → c.PrintsSoFar limit old.file u []) (own : (file : Files) → c.Own limit file)
    (fresh : IsFresh old) (asks : AsksSettings name old mid) where
  -- the ports except Settings are unchanged
  hp_same : mid.hp ≡ old.hp
  hp_same = ap (λ (x : Meaning). x.hp) asks.others

  lp_same : mid.lp ≡ old.lp
  lp_same = ap (λ (x : Meaning). x.lp) asks.others

  cells_same : mid.cells ≡ old.cells
  cells_same = ap (λ (x : Meaning). x.cells) asks.others

  sink_same : (port : OutPort) → sink_at port mid ≡ sink_at port old
  sink_same outs.Cells = ap (λ (x : Meaning). x.cells_out) asks.others
  sink_same outs.Hp = ap (λ (x : Meaning). x.hp_out) asks.others
  sink_same outs.Lp = ap (λ (x : Meaning). x.lp_out) asks.others
  sink_same outs.Bytes = ap (λ (x : Meaning). x.bytes_out) asks.others
  sink_same outs.Report = ap (λ (x : Meaning). x.report) asks.others

  unasked : (port : OutPort) → (sink_at port mid).asked ≡ None
  unasked outs.Cells = ap (λ (s : Sink). s.asked) (sink_same outs.Cells) ∙ fresh.cells_out.asked
  unasked outs.Hp = ap (λ (s : Sink). s.asked) (sink_same outs.Hp) ∙ fresh.hp_out.asked
  unasked outs.Lp = ap (λ (s : Sink). s.asked) (sink_same outs.Lp) ∙ fresh.lp_out.asked
  unasked outs.Bytes = ap (λ (s : Sink). s.asked) (sink_same outs.Bytes) ∙ fresh.bytes_out.asked
  unasked outs.Report = ap (λ (s : Sink). s.asked) (sink_same outs.Report) ∙ fresh.report_asked

  untouched : (port : OutPort) → IsOutput c port → IsUntouched (sink_at port mid)
  untouched outs.Cells is = subst IsUntouched (sym (sink_same outs.Cells)) fresh.cells_out
  untouched outs.Hp is = subst IsUntouched (sym (sink_same outs.Hp)) fresh.hp_out
  untouched outs.Lp is = subst IsUntouched (sym (sink_same outs.Lp)) fresh.lp_out
  untouched outs.Bytes is = subst IsUntouched (sym (sink_same outs.Bytes)) fresh.bytes_out
  untouched outs.Report is = absurd (true≢false (sym is ∙ ap is_some no_report))

  unmade : (port : OutPort) → IsOutput c port → (sink_at port mid).created ≡ true → ⊥
  unmade port is made = true≢false (sym made ∙ (untouched port is).created)

  unopened : (port : InPort) → port ≢ ins.Settings → (source_at port mid).attached ≡ false
  unopened ins.Settings other = absurd (other refl)
  unopened ins.Hp other = ap (λ (s : Source). s.attached) hp_same ∙ fresh.hp.attached
  unopened ins.Lp other = ap (λ (s : Source). s.attached) lp_same ∙ fresh.lp.attached
  unopened ins.Cells other = ap (λ (s : Source). s.attached) cells_same ∙ fresh.cells.attached

  alone : AsksSettingsAlone mid
  alone = record { sources = sources; sinks = unasked }
    where
      sources : (port : InPort) → port ≢ ins.Settings → (source_at port mid).asked ≡ None
      sources ins.Settings other = absurd (other refl)
      sources ins.Hp other = ap (λ (s : Source). s.asked) hp_same ∙ fresh.hp.asked
      sources ins.Lp other = ap (λ (s : Source). s.asked) lp_same ∙ fresh.lp.asked
      sources ins.Cells other = ap (λ (s : Source). s.asked) cells_same ∙ fresh.cells.asked

  report_is : old.tells ≡ true → mid.report.written ≡ []
  report_is t = ap (λ (s : Sink). s.written) (sink_same outs.Report) ∙ fresh.report_empty t

  files_same : mid.file ≡ old.file
  files_same = ap (λ (x : Meaning). x.file) asks.others

  -- nothing was taken of the other inputs
  whole : (port : InPort) → port ≢ ins.Settings → unread c mid port ≡ input_file old.file c port
  whole port other =
      ap (λ (b : Bool). if b then (source_at port mid).left else input_file mid.file c port) (unopened port other)
      ∙ ap (λ (f : Files). input_file f c port) files_same

  sources_asked : (port : InPort) → ((source_at port mid).asked ≡ None) ⊎ ((source_at port mid).asked ≡ c.reads port)
  sources_asked ins.Settings = elim reads [
    | inl same ↦ inl (ap (λ (s : Source). s.asked) same ∙ fresh.settings.asked)
    | inr it ↦ elim asks.asked [
      | inl same ↦ inl (ap (λ (s : Source). s.asked) same ∙ fresh.settings.asked)
      | inr is ↦ inr (is ∙ sym it.0)
    ]
  ]
  sources_asked ins.Hp = inl (alone.sources ins.Hp (λ is. cc))
  sources_asked ins.Lp = inl (alone.sources ins.Lp (λ is. cc))
  sources_asked ins.Cells = inl (alone.sources ins.Cells (λ is. cc))

  took : old.tells ≡ true → (port : InPort) → (source_at port mid).attached ≡ true
      → (k : ℕ) × (k ≤ c.most_taken limit old.file port) × ((source_at port mid).left ≡ drop k (input_file old.file c port))
  took t ins.Settings is = elim reads [
    | inl same ↦ absurd (true≢false (sym is ∙ ap (λ (s : Source). s.attached) same ∙ fresh.settings.attached))
    | inr it ↦
        let r = asks.read t is in
        (r.0, subst (λ (n : ℕ). r.0 ≤ n) (sym it.1) r.1, r.2 ∙ ap (λ (o : Option (List ℕ)). drop r.0 (named old.file o)) (sym it.0))
  ]
  took t ins.Hp is = absurd (true≢false (sym is ∙ unopened ins.Hp (λ e. cc)))
  took t ins.Lp is = absurd (true≢false (sym is ∙ unopened ins.Lp (λ e. cc)))
  took t ins.Cells is = absurd (true≢false (sym is ∙ unopened ins.Cells (λ e. cc)))

  caused : (r : Refusal) → RefusedEarly c limit old mid r → IsCaused c limit old mid (Some r)
  caused Usage h = h.0
  caused (Settings reason) h = h.0
  caused ReadFault h = h.0
  caused WriteFault h = absurd h
  caused (NotSync stream n) h = absurd h
  caused Memory h = h
  caused (Limit n) h = absurd h
  caused (Cells reason) h = absurd h

  -- nothing was given to an output
  settled : IsSettled old mid
  settled = record { settled = ap (λ (x : Meaning). x.pending) asks.others ∙ fresh.settled; writes = ap (λ (x : Meaning). x.write_faults) asks.others }

  settled_by : (r : Refusal) → RefusedEarly c limit old mid r → IsSettledAt old mid (Some r)
  settled_by Usage h = settled
  settled_by (Settings reason) h = settled
  settled_by ReadFault h = settled
  settled_by WriteFault h = absurd h
  settled_by (NotSync stream n) h = absurd h
  settled_by Memory h = settled
  settled_by (Limit n) h = absurd h
  settled_by (Cells reason) h = absurd h

  later : (r : Refusal) → RefusedEarly c limit old mid r → old.read_faults ≤ mid.read_faults
  later Usage h = omega (arith, h.0)
  later (Settings reason) h = omega (arith, h.0)
  later ReadFault h = h.1
  later WriteFault h = absurd h
  later (NotSync stream n) h = absurd h
  later Memory h = omega (arith, h)
  later (Limit n) h = absurd h
  later (Cells reason) h = absurd h

  -- a refusal of the settings is the refusal of the run
  comes_to : (reason : Refusal) → c.early_refusal old.file ≡ Some reason → refusal_of limit old.file c ≡ Some reason
  comes_to reason is = ap (λ (x : Option Refusal). option_or x (option_or (header_refusal (c.header old.file) (input_file old.file c ins.Cells)) (c.work_refusal limit old.file))) is

  exact : (r : Refusal) → RefusedEarly c limit old mid r → IsExact c limit old (Some r)
  exact Usage h = λ t. comes_to Usage (h.1 t)
  exact (Settings reason) h = λ t. comes_to (Settings reason) (h.1 t)
  exact ReadFault h = tt
  exact WriteFault h = tt
  exact (NotSync stream n) h = absurd h
  exact Memory h = tt
  exact (Limit n) h = absurd h
  exact (Cells reason) h = absurd h

  holds_nothing : HoldNothing old mid
  holds_nothing = record { asks = alone; report = report_is }

  leaves : (r : Refusal) → RefusedEarly c limit old mid r → Leaves c limit old mid (Some r)
  leaves Usage h = holds_nothing
  leaves (Settings reason) h = holds_nothing
  leaves ReadFault h = record {
    outputs = λ t out is made. absurd (unmade out is made);
    report = λ t. subst (λ (l : List ℕ). c.PrintsSoFar limit old.file (unread c mid) l) (sym (report_is t)) (nothing (unread c mid) whole);
  }
  leaves WriteFault h = absurd h
  leaves (NotSync stream n) h = absurd h
  leaves Memory h = inl holds_nothing
  leaves (Limit n) h = absurd h
  leaves (Cells reason) h = absurd h

  pub early_ended : (r : Refusal) → RefusedEarly c limit old mid r → is_among (status_of (Some r)) c.statuses ≡ true → Ended c limit old mid (Some r)
  early_ended r h known = record {
    known = known;
    caused = caused r h;
    settled = settled_by r h;
    later_reads = later r h;
    later_writes = omega (arith, ap (λ (x : Meaning). x.write_faults) asks.others);
    later_report = omega (arith, ap (λ (x : Meaning). x.report_faults) asks.others);
    exact = exact r h;
    sources = sources_asked;
    sinks = λ port. inl (unasked port);
    settings_first = λ is. inl alone;
    lp_behind_hp = inl (alone.sources ins.Lp (λ is. cc));
    outputs_behind_inputs = λ out. inl (unasked out);
    unasked = λ out is none. untouched out is;
    outputs_behind_header = λ t out. inl (unasked out);
    lp_made_behind_hp = inl (unasked outs.Lp);
    work_behind_outputs = λ t port other is. inl (0, omega arith, whole port other ∙ ap (λ (f : Files). input_file f c port) (sym files_same));
    taken = λ t port is attached. took t port attached;
    opened = λ is. absurd (let e : Some r ≡ None = is in cc);
    read_out = λ is. absurd (let e : Some r ≡ None = is in cc);
    closed = λ out is made. absurd (unmade out is made);
    no_report = no_report;
    same_telling = ap (λ (x : Meaning). x.tells) asks.others;
    same_files = files_same;
    report_open = ap (λ (s : Sink). s.closed) (sink_same outs.Report);
    leaves = leaves r h;
    own = own;
  }

-- the same for a run that has requested nothing
pub unstarted_ended : (c : Command) (limit : ℕ) (old : Meaning) → c.writes outs.Report ≡ None
    → ((u : Unread) → ((port : InPort) → port ≢ ins.Settings → u port ≡ input_file old.file c port) → c.PrintsSoFar limit old.file u [])
    → ((file : Files) → c.Own limit file) → IsFresh old → (r : Refusal) → RefusedEarly c limit old old r → is_among (status_of (Some r)) c.statuses ≡ true → Ended c limit old old (Some r)
unstarted_ended c limit old no_report nothing own fresh r h known =
    early_ended c limit [] old old no_report (inl refl) nothing own fresh
    (record { others = refl; later = omega arith; asked = inl refl; read = λ t is. absurd (true≢false (sym is ∙ fresh.settings.attached)) }) r h known
