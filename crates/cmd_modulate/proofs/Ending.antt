-- The state after a run of `modulate` with accepted settings and allocated memory.
use Rattle.std.proofs.Common.{◌≡◌, ◌≢◌, ◌⊎◌, inl, inr, true, false, ℕ, ◌+◌, ◌≤◌, Bool, if◌then◌else◌, List, [], ◌++◌, take, drop, Option, Some, None, Result, Ok, Err, refl, ◌∙◌, sym, ap, subst, arith}
use Rattle.std.specs.Prelude.{IsTrue, is_some, option_and_then}
use Rattle.std.specs.Option.{option_or}
use Rattle.std.proofs.lemmas.Bool.{true≢false}
use Rattle.station_core.specs.Meaning.{Meaning, Source, IsFresh, IsUntouched, source_at, sink_at}
use Rattle.station_core.specs.Causes.{Rose}
use Rattle.station_core.specs.declared.ports.InPort.{InPort}
use Rattle.station_core.specs.declared.ports.InPort.TheVariants as ins
use Rattle.station_core.specs.declared.ports.OutPort.{OutPort}
use Rattle.station_core.specs.declared.ports.OutPort.TheVariants as outs
use Rattle.mode_set.specs.declared.modes.Stream.{Stream}
use Rattle.mode_set.specs.declared.modes.Stream.TheVariants.{Hp, Lp}
use Rattle.mode_set.specs.declared.settings.Settings.{Settings as TheSettings}
use Rattle.cmd_base.specs.declared.refusal.Refusal.{Refusal}
use Rattle.cmd_base.specs.declared.refusal.SettingsRefusal.TheVariants.{Form}
use Rattle.cmd_base.specs.declared.refusal.Refusal.TheVariants.{Usage, Settings, ReadFault, WriteFault, NotSync, Memory, Limit, Cells}
use Rattle.cmd_base.specs.Command.{Command, Files, IsInput, IsOutput, input_file, is_among, named, refusal_of, unread}
use Rattle.cmd_base.specs.Run.{IsUntaken}
use Rattle.cmd_base.proofs.Taken.{all_unread}
use Rattle.cmd_base.specs.SettingsFile.{most_settings, settings_refusal}
use Rattle.cmd_base.specs.StatedSettings.{settings_of}
use Rattle.cmd_base.specs.StreamForm.{fits_form, form_refusal}
use Rattle.cmd_base.specs.Text.{status_of}
use Rattle.cmd_base.specs.Causes.{AreReadsKept, HasEndCause, IsSettled}
use Rattle.cmd_base.specs.Ended.{AreMade, Ended, Hold, IsCaused, IsExact, IsSettledAt, IsWriteFault, Leaves}
use Rattle.cmd_modulate.specs.declared.counts.TransmissionCounts.{TransmissionCounts}
use Rattle.cmd_modulate.specs.ModulateCommand.{HoldsSymbolsSoFar, cells_sent, files_of, inputs_of, left_unread, modulate_command, modulation_lines, modulation_refusal, transmission_counts, transmission_lines}
use Rattle.cmd_modulate.specs.Inputs.{left_of, lp_left}
use Rattle.cmd_modulate.specs.Work.{Modulates, TakeFew, TakesFew}
use Rattle.cmd_modulate.specs.Steps.{FailsAtCells, FailsAtHp, FailsAtLp, IsAccepted, OpensAll, Ran, Worked, lp_source}

-- the state of the settings' port before the work
pub record SettingsDone (name : List ℕ) (lp : Option (List ℕ)) (s : TheSettings) (start : Meaning) (at : Source) : Type 0 where
  pub asked : at.asked ≡ Some name
  pub attached : at.attached ≡ true
  pub left : start.tells ≡ true → at.left ≡ []
  pub taken : start.tells ≡ true → (k : ℕ) × (k ≤ most_settings + 1) × (at.left ≡ drop k (start.file name))
  pub accepted : start.tells ≡ true → settings_refusal (start.file name) ≡ None
  pub stated : start.tells ≡ true → settings_of (start.file name) ≡ Some s
  pub fits : fits_form s lp ≡ true

-- the refusal of a run, if any
abbrev pub refusal_in : Result TransmissionCounts Refusal → Option Refusal
refusal_in (Ok counts) = None
refusal_in (Err r) = Some r

-- ---- an input of which nothing was taken: it is not open, or all of its file is left
abbrev IsWhole : Source → List ℕ → Type 0
IsWhole src whole = (src.attached ≡ false) ⊎ ((src.attached ≡ true) × (src.left ≡ whole))

unread_whole : (src : Source) (whole : List ℕ) → IsWhole src whole → (if src.attached then src.left else whole) ≡ whole
unread_whole src whole (inl e) = ap (λ (b : Bool). if b then src.left else whole) e
unread_whole src whole (inr e) = ap (λ (b : Bool). if b then src.left else whole) e.0 ∙ e.1

few_whole : (limit : ℕ) (src : Source) (whole : List ℕ) → IsWhole src whole → src.attached ≡ true → TakesFew limit whole src.left
few_whole limit src whole (inl e) is = absurd (true≢false (sym is ∙ e))
few_whole limit src whole (inr e) is = (0, omega arith, e.1)

-- only the ports of the command, what was written to Report and the counts have changed
abbrev KeepsElse : Meaning → Meaning → Type 0
KeepsElse old end = end ≡ record old {
  hp = end.hp;
  lp = end.lp;
  cells_out = end.cells_out;
  report = record old.report { written = end.report.written };
  read_faults = end.read_faults;
  write_faults = end.write_faults;
  close_faults = end.close_faults;
  report_faults = end.report_faults;
  pending = end.pending;
}

-- the ports after a run
record Ports (limit : ℕ) (hp : List ℕ) (lp : Option (List ℕ)) (cells : List ℕ) (start : Meaning) (at : Source) (end : Meaning) : Type 0 where
  others : KeepsElse (record start { settings = at }) end
  later_report : start.report_faults ≤ end.report_faults
  hp_asked : end.hp.asked ≡ Some hp
  lp_asked : (end.lp.asked ≡ None) ⊎ (end.lp.asked ≡ lp)
  lp_behind_hp : (end.lp.asked ≡ None) ⊎ (end.hp.attached ≡ true)
  cells_asked : IsUntouched end.cells_out ⊎ (end.cells_out.asked ≡ Some cells)
  behind_inputs : (end.cells_out.asked ≡ None) ⊎ ((end.hp.attached ≡ true) × (IsTrue (is_some lp) → end.lp.attached ≡ true))
  closed : end.cells_out.created ≡ true → end.cells_out.closed ≡ true
  whole : (end.cells_out.created ≡ true) ⊎ (IsWhole end.hp (start.file hp) × IsWhole end.lp (named start.file lp))
  hp_few : start.tells ≡ true → end.hp.attached ≡ true → TakesFew limit (start.file hp) end.hp.left
  lp_few : start.tells ≡ true → end.lp.attached ≡ true → TakesFew limit (named start.file lp) end.lp.left

module _ (limit : ℕ) (hp : List ℕ) (lp : Option (List ℕ)) (cells : List ℕ) (start : Meaning) (at : Source) (fresh : IsFresh start) (end : Meaning) where
  abbrev old : Meaning
  old = record start { settings = at }

  -- ---- LP, where there is LP
  lp_asked_of : (o : Option (List ℕ)) → end.lp.asked ≡ (lp_source o old).asked → (end.lp.asked ≡ None) ⊎ (end.lp.asked ≡ o)
  lp_asked_of None is = inl (is ∙ fresh.lp.asked)
  lp_asked_of (Some name) is = inr is

  lp_open_of : (o : Option (List ℕ)) → end.lp.attached ≡ (lp_source o old).attached → IsTrue (is_some o) → end.lp.attached ≡ true
  lp_open_of None is some = absurd (true≢false (sym some))
  lp_open_of (Some name) is some = is

  lp_whole_of : (o : Option (List ℕ)) → end.lp ≡ lp_source o old → IsWhole end.lp (named start.file o)
  lp_whole_of None is = inl (ap (λ (x : Source). x.attached) is ∙ fresh.lp.attached)
  lp_whole_of (Some name) is = inr (ap (λ (x : Source). x.attached) is, ap (λ (x : Source). x.left) is)

  -- ---- the output was not created
  module _ (unmade : end.cells_out.created ≡ false) (hp_whole : IsWhole end.hp (start.file hp)) (lp_whole : IsWhole end.lp (named start.file lp)) where
    ports_unmade : KeepsElse old end → start.report_faults ≤ end.report_faults → end.hp.asked ≡ Some hp → (end.lp.asked ≡ None) ⊎ (end.lp.asked ≡ lp)
        → (end.lp.asked ≡ None) ⊎ (end.hp.attached ≡ true) → IsUntouched end.cells_out ⊎ (end.cells_out.asked ≡ Some cells)
        → (end.cells_out.asked ≡ None) ⊎ ((end.hp.attached ≡ true) × (IsTrue (is_some lp) → end.lp.attached ≡ true)) → Ports limit hp lp cells start at end
    ports_unmade others later hp_asked lp_asked lp_behind_hp cells_asked behind_inputs = record {
      others = others;
      later_report = later;
      hp_asked = hp_asked;
      lp_asked = lp_asked;
      lp_behind_hp = lp_behind_hp;
      cells_asked = cells_asked;
      behind_inputs = behind_inputs;
      closed = λ made. absurd (true≢false (sym made ∙ unmade));
      whole = inr (hp_whole, lp_whole);
      hp_few = λ t is. few_whole limit end.hp (start.file hp) hp_whole is;
      lp_few = λ t is. few_whole limit end.lp (named start.file lp) lp_whole is;
    }

  unmade_as : end.cells_out.created ≡ start.cells_out.created → end.cells_out.created ≡ false
  unmade_as is = is ∙ fresh.cells_out.created

  fails_at_hp : FailsAtHp hp old end → Ports limit hp lp cells start at end
  fails_at_hp e =
      let lp_none : end.lp.asked ≡ None = ap (λ (x : Meaning). x.lp.asked) e ∙ fresh.lp.asked in
      let none : IsUntouched end.cells_out = subst (λ (x : Meaning). IsUntouched x.cells_out) (sym e) fresh.cells_out in
      ports_unmade (unmade_as (ap (λ (x : Meaning). x.cells_out.created) e))
      (inl (ap (λ (x : Meaning). x.hp.attached) e ∙ fresh.hp.attached)) (inl (ap (λ (x : Meaning). x.lp.attached) e ∙ fresh.lp.attached))
      (subst (λ (x : Meaning). KeepsElse old x) (sym e) refl) (omega (arith, ap (λ (x : Meaning). x.report_faults) e))
      (ap (λ (x : Meaning). x.hp.asked) e) (inl lp_none) (inl lp_none) (inl none) (inl none.asked)

  fails_at_lp : FailsAtLp hp lp old end → Ports limit hp lp cells start at end
  fails_at_lp fails = go lp refl fails
    where
      go : (o : Option (List ℕ)) → lp ≡ o → FailsAtLp hp o old end → Ports limit hp lp cells start at end
      go None is e = absurd e
      go (Some name) is e =
          let none : IsUntouched end.cells_out = subst (λ (x : Meaning). IsUntouched x.cells_out) (sym e) fresh.cells_out in
          let hp_open : end.hp.attached ≡ true = ap (λ (x : Meaning). x.hp.attached) e in
          ports_unmade (unmade_as (ap (λ (x : Meaning). x.cells_out.created) e))
          (inr (hp_open, ap (λ (x : Meaning). x.hp.left) e)) (inl (ap (λ (x : Meaning). x.lp.attached) e ∙ fresh.lp.attached))
          (subst (λ (x : Meaning). KeepsElse old x) (sym e) refl) (omega (arith, ap (λ (x : Meaning). x.report_faults) e))
          (ap (λ (x : Meaning). x.hp.asked) e) (inr (ap (λ (x : Meaning). x.lp.asked) e ∙ sym is)) (inr hp_open) (inl none) (inl none.asked)

  fails_at_cells : FailsAtCells hp lp cells old end → Ports limit hp lp cells start at end
  fails_at_cells e =
      let hp_open : end.hp.attached ≡ true = ap (λ (x : Meaning). x.hp.attached) e in
      ports_unmade (unmade_as (ap (λ (x : Meaning). x.cells_out.created) e))
      (inr (hp_open, ap (λ (x : Meaning). x.hp.left) e)) (lp_whole_of lp (ap (λ (x : Meaning). x.lp) e))
      (subst (λ (x : Meaning). KeepsElse old x) (sym e) refl) (omega (arith, ap (λ (x : Meaning). x.report_faults) e))
      (ap (λ (x : Meaning). x.hp.asked) e) (lp_asked_of lp (ap (λ (x : Meaning). x.lp.asked) e)) (inr hp_open)
      (inr (ap (λ (x : Meaning). x.cells_out.asked) e)) (inr (hp_open, lp_open_of lp (ap (λ (x : Meaning). x.lp.attached) e)))

  -- ---- the work was begun
  few_in : (s : TheSettings) (r : Result TransmissionCounts Refusal) → Modulates s limit (files_of start.file hp lp) end r → TakeFew limit (files_of start.file hp lp) (left_of end)
  few_in s (Ok counts) w = w.5
  few_in s (Err r) w = w.1

  has_worked : (s : TheSettings) (r : Result TransmissionCounts Refusal) → Worked s limit hp lp cells old end r → Ports limit hp lp cells start at end
  has_worked s r w =
      let e = w.ports.others in
      let hp_open : end.hp.attached ≡ true = ap (λ (x : Meaning). x.hp.attached) e in
      record {
        others = subst (λ (x : Meaning). KeepsElse old x) (sym e) refl;
        later_report = w.ports.later_report;
        hp_asked = ap (λ (x : Meaning). x.hp.asked) e;
        lp_asked = lp_asked_of lp (ap (λ (x : Meaning). x.lp.asked) e);
        lp_behind_hp = inr hp_open;
        cells_asked = inr (ap (λ (x : Meaning). x.cells_out.asked) e);
        behind_inputs = inr (hp_open, lp_open_of lp (ap (λ (x : Meaning). x.lp.attached) e));
        closed = λ made. ap (λ (x : Meaning). x.cells_out.closed) e;
        whole = inl (ap (λ (x : Meaning). x.cells_out.created) e);
        hp_few = λ t is. (few_in s r (w.modulates t)).hp;
        lp_few = λ t is. subst (λ (b : Bool). TakesFew limit (named start.file lp) (if b then end.lp.left else [])) is (few_in s r (w.modulates t)).lp;
      }

module _ (limit : ℕ) (name hp : List ℕ) (lp : Option (List ℕ)) (cells : List ℕ) (start : Meaning) (at : Source) (fresh : IsFresh start) (s : TheSettings) (settings : SettingsDone name lp s start at) where
  abbrev c : Command
  c = modulate_command name hp lp cells

  abbrev before : Meaning
  before = record start { settings = at }

  abbrev files : Stream → List ℕ
  files = files_of start.file hp lp

  -- ---- the outputs for the files, with the stated settings
  early_none : start.tells ≡ true → c.early_refusal start.file ≡ None
  early_none t =
      ap (λ (o : Option Refusal). option_or o (form_refusal (settings_of (start.file name)) lp)) (settings.accepted t)
      ∙ ap (λ (o : Option TheSettings). form_refusal o lp) (settings.stated t)
      ∙ ap (λ (b : Bool). if b then None else Some (Settings Form)) settings.fits

  refusal_is : start.tells ≡ true → refusal_of limit start.file c ≡ modulation_refusal s limit (inputs_of files)
  refusal_is t =
      ap (λ (o : Option Refusal). option_or o (option_and_then (λ x. modulation_refusal x limit (inputs_of files)) (settings_of (start.file name)))) (early_none t)
      ∙ ap (λ (o : Option TheSettings). option_and_then (λ x. modulation_refusal x limit (inputs_of files)) o) (settings.stated t)

  -- a fact of the only output
  only : (P : OutPort → Type 0) → P outs.Cells → (port : OutPort) → IsOutput c port → P port
  only P p outs.Cells is = p
  only P p outs.Hp is = absurd (true≢false (sym is))
  only P p outs.Lp is = absurd (true≢false (sym is))
  only P p outs.Bytes is = absurd (true≢false (sym is))
  only P p outs.Report is = absurd (true≢false (sym is))

  module _ (end : Meaning) (ports : Ports limit hp lp cells start at end) where
    settings_is : end.settings ≡ at
    settings_is = ap (λ (x : Meaning). x.settings) ports.others

    cells_unasked : end.cells.asked ≡ None
    cells_unasked = ap (λ (x : Meaning). x.cells.asked) ports.others ∙ fresh.cells.asked

    file_same : end.file ≡ start.file
    file_same = ap (λ (x : Meaning). x.file) ports.others

    sources_asked : (port : InPort) → ((source_at port end).asked ≡ None) ⊎ ((source_at port end).asked ≡ c.reads port)
    sources_asked ins.Settings = inr (ap (λ (x : Source). x.asked) settings_is ∙ settings.asked)
    sources_asked ins.Hp = inr ports.hp_asked
    sources_asked ins.Lp = ports.lp_asked
    sources_asked ins.Cells = inl cells_unasked

    sinks_asked : (port : OutPort) → ((sink_at port end).asked ≡ None) ⊎ ((sink_at port end).asked ≡ c.writes port)
    sinks_asked outs.Cells = elim ports.cells_asked [ inl none ↦ inl none.asked | inr is ↦ inr is ]
    sinks_asked outs.Hp = inl (ap (λ (x : Meaning). x.hp_out.asked) ports.others ∙ fresh.hp_out.asked)
    sinks_asked outs.Lp = inl (ap (λ (x : Meaning). x.lp_out.asked) ports.others ∙ fresh.lp_out.asked)
    sinks_asked outs.Bytes = inl (ap (λ (x : Meaning). x.bytes_out.asked) ports.others ∙ fresh.bytes_out.asked)
    sinks_asked outs.Report = inl (ap (λ (x : Meaning). x.report.asked) ports.others ∙ fresh.report_asked)

    open_at : (end.hp.attached ≡ true) × (IsTrue (is_some lp) → end.lp.attached ≡ true) → (port : InPort) → IsInput c port → (source_at port end).attached ≡ true
    open_at inputs ins.Settings is = ap (λ (x : Source). x.attached) settings_is ∙ settings.attached
    open_at inputs ins.Hp is = inputs.0
    open_at inputs ins.Lp is = inputs.1 is
    open_at inputs ins.Cells is = absurd (true≢false (sym is))

    behind : (out : OutPort) → ((sink_at out end).asked ≡ None) ⊎ ((port : InPort) → IsInput c port → (source_at port end).attached ≡ true)
    behind outs.Cells = elim ports.behind_inputs [ inl none ↦ inl none | inr inputs ↦ inr (open_at inputs) ]
    behind outs.Hp = inl (ap (λ (x : Meaning). x.hp_out.asked) ports.others ∙ fresh.hp_out.asked)
    behind outs.Lp = inl (ap (λ (x : Meaning). x.lp_out.asked) ports.others ∙ fresh.lp_out.asked)
    behind outs.Bytes = inl (ap (λ (x : Meaning). x.bytes_out.asked) ports.others ∙ fresh.bytes_out.asked)
    behind outs.Report = inl (ap (λ (x : Meaning). x.report.asked) ports.others ∙ fresh.report_asked)

    unasked : end.cells_out.asked ≡ None → IsUntouched end.cells_out
    unasked none = elim ports.cells_asked [ inl yet ↦ yet | inr is ↦ absurd (let e : Some cells ≡ None = sym is ∙ none in cc) ]

    untaken : IsWhole end.hp (start.file hp) × IsWhole end.lp (named start.file lp) → (port : InPort) → port ≢ ins.Settings → IsInput c port → IsUntaken c end port
    untaken whole ins.Settings other is = absurd (other refl)
    untaken whole ins.Hp other is = all_unread c end ins.Hp (
        ap (λ (f : Files). if end.hp.attached then end.hp.left else f hp) file_same ∙ unread_whole end.hp (start.file hp) whole.0 ∙ sym (ap (λ (f : Files). f hp) file_same))
    untaken whole ins.Lp other is = all_unread c end ins.Lp (
        ap (λ (f : Files). if end.lp.attached then end.lp.left else named f lp) file_same ∙ unread_whole end.lp (named start.file lp) whole.1 ∙ sym (ap (λ (f : Files). named f lp) file_same))
    untaken whole ins.Cells other is = absurd (true≢false (sym is))

    work_behind : (port : InPort) → port ≢ ins.Settings → IsInput c port → IsUntaken c end port ⊎ AreMade c end
    work_behind port other is = elim ports.whole [
      | inl made ↦ inr (only (λ out. (sink_at out end).created ≡ true) made)
      | inr whole ↦ inl (untaken whole port other is)
    ]

    took : start.tells ≡ true → (port : InPort) → IsInput c port → (source_at port end).attached ≡ true
        → (k : ℕ) × (k ≤ c.most_taken limit start.file port) × ((source_at port end).left ≡ drop k (input_file start.file c port))
    took t ins.Settings is attached = let k = settings.taken t in (k.0, k.1, ap (λ (x : Source). x.left) settings_is ∙ k.2)
    took t ins.Hp is attached = ports.hp_few t attached
    took t ins.Lp is attached = ports.lp_few t attached
    took t ins.Cells is attached = absurd (true≢false (sym is))

    ended : (r : Option Refusal) → is_among (status_of r) c.statuses ≡ true → IsCaused c limit start end r → IsSettledAt start end r → start.read_faults ≤ end.read_faults → start.write_faults ≤ end.write_faults
        → IsExact c limit start r → (r ≡ None → (port : InPort) → IsInput c port → (source_at port end).attached ≡ true)
        → (r ≡ None → start.tells ≡ true → (port : InPort) → IsInput c port → (source_at port end).left ≡ []) → Leaves c limit start end r → Ended c limit start end r
    ended r known caused settled reads writes exact opened read_out leaves = record {
      known = known;
      caused = caused;
      settled = settled;
      later_reads = reads;
      later_writes = writes;
      later_report = ports.later_report;
      exact = exact;
      sources = sources_asked;
      sinks = sinks_asked;
      settings_first = λ is. inr (ap (λ (x : Source). x.attached) settings_is ∙ settings.attached, λ t. (ap (λ (x : Source). x.left) settings_is ∙ settings.left t, early_none t));
      lp_behind_hp = ports.lp_behind_hp;
      outputs_behind_inputs = behind;
      unasked = only (λ out. (sink_at out end).asked ≡ None → IsUntouched (sink_at out end)) unasked;
      outputs_behind_header = λ t out. inr tt;
      lp_made_behind_hp = inl (ap (λ (x : Meaning). x.lp_out.asked) ports.others ∙ fresh.lp_out.asked);
      work_behind_outputs = λ t port other is. work_behind port other is;
      taken = took;
      opened = opened;
      read_out = read_out;
      closed = only (λ out. (sink_at out end).created ≡ true → (sink_at out end).closed ≡ true) ports.closed;
      no_report = refl;
      same_telling = ap (λ (x : Meaning). x.tells) ports.others;
      same_files = file_same;
      report_open = ap (λ (x : Meaning). x.report.closed) ports.others;
      leaves = leaves;
      own = λ file. tt;
    }

    -- the same for a refused run
    refused : (r : Refusal) → is_among (status_of (Some r)) c.statuses ≡ true → IsCaused c limit start end (Some r) → IsSettledAt start end (Some r) → start.read_faults ≤ end.read_faults → start.write_faults ≤ end.write_faults
        → IsExact c limit start (Some r) → Leaves c limit start end (Some r) → Ended c limit start end (Some r)
    refused r known caused settled reads writes exact leaves =
        ended (Some r) known caused settled reads writes exact (λ none. absurd (let e : Some r ≡ None = none in cc)) (λ none. absurd (let e : Some r ≡ None = none in cc)) leaves

  -- ---- the state for each outcome
  module _ (end : Meaning) where
    empty : (text : List ℕ) → start.tells ≡ true → start.report.written ++ text ≡ text
    empty text t = ap (λ (l : List ℕ). l ++ text) (fresh.report_empty t)

    abbrev lines : List ℕ
    lines = modulation_lines s limit (is_some lp) files

    no_lines : (r : Refusal) → modulation_refusal s limit (inputs_of files) ≡ Some r → lines ≡ []
    no_lines r is = ap (λ (o : Option Refusal). if is_some o then [] else transmission_lines (is_some lp) (transmission_counts s files)) is

    module _ (r : Result TransmissionCounts Refusal) (w : Worked s limit hp lp cells before end r) where
      made : AreMade c end
      made = only (λ out. (sink_at out end).created ≡ true) (ap (λ (x : Meaning). x.cells_out.created) w.ports.others)

      hp_open : end.hp.attached ≡ true
      hp_open = ap (λ (x : Meaning). x.hp.attached) w.ports.others

      lp_open : IsTrue (is_some lp) → end.lp.attached ≡ true
      lp_open = lp_open_of limit hp lp cells start at fresh end lp (ap (λ (x : Meaning). x.lp.attached) w.ports.others)

      -- the bytes left of the streams are the unread ones
      left_same : left_of end ≡ left_unread (unread c end)
      left_same = λ i σ. at_stream σ i
        where
          at_lp : (o : Option (List ℕ)) → (IsTrue (is_some o) → end.lp.attached ≡ true) → lp_left end ≡ (if end.lp.attached then end.lp.left else named end.file o)
          at_lp None opened = refl
          at_lp (Some lp_name) opened =
              ap (λ (b : Bool). if b then end.lp.left else []) (opened refl) ∙ sym (ap (λ (b : Bool). if b then end.lp.left else end.file lp_name) (opened refl))

          at_stream : (σ : Stream) → left_of end σ ≡ left_unread (unread c end) σ
          at_stream Hp = sym (ap (λ (b : Bool). if b then end.hp.left else end.file hp) hp_open)
          at_stream Lp = at_lp lp lp_open

    -- a refusal in the work: Cells holds the symbols before it, and nothing was printed
    holds : (r : Refusal) → Worked s limit hp lp cells before end (Err r)
        → (start.tells ≡ true → (modulation_refusal s limit (inputs_of files) ≡ Some r) × (end.cells_out.written ≡ cells_sent s limit (inputs_of files)))
        → (start.tells ≡ true → end.report.written ≡ start.report.written) → Hold c limit start end
    holds r w ends printed = record {
      made = made (Err r) w;
      outputs = λ t. only (λ out. c.Comes limit start.file out (sink_at out end).written) (s, settings.stated t, (ends t).1);
      report = λ t. (s, settings.stated t, printed t ∙ fresh.report_empty t ∙ sym (no_lines r (ends t).0));
    }

    -- a failure to close after complete work does not come with a refusal
    fault : Rose start.write_faults end.write_faults ⊎ (Rose start.close_faults end.close_faults × (start.tells ≡ true → IsAccepted s limit files)) → IsWriteFault c limit start end
    fault (inl rose) = inl rose
    fault (inr shut) = inr (shut.0, λ t. refusal_is t ∙ shut.1 t)

    -- the settings do not change the pending flag
    settled_is : IsSettled before end → IsSettled start end
    settled_is x = record { settled = x.settled; writes = x.writes }

    later_writes : IsSettled before end → start.write_faults ≤ end.write_faults
    later_writes x = omega (arith, x.writes)

    later_reads : AreReadsKept before end → start.read_faults ≤ end.read_faults
    later_reads (inl same) = omega (arith, same)
    later_reads (inr both) = both.0

    by_refusal : (r : Refusal) → HasEndCause {T = TransmissionCounts} (start.tells ≡ true → IsAccepted s limit files) before end (Err r) → OpensAll hp lp cells before end (Err r) ⊎ Worked s limit hp lp cells before end (Err r) → Ended c limit start end (Some r)
    by_refusal Usage cause ran = absurd cause
    by_refusal (Cells reason) cause ran = absurd cause
    by_refusal (Settings reason) cause ran = absurd cause
    by_refusal Memory cause ran = absurd cause
    by_refusal ReadFault cause ran = refused end ports ReadFault refl cause.0 (settled_is cause.2) cause.1 (later_writes cause.2) tt (record {
      outputs = λ t. only (λ out. (sink_at out end).created ≡ true → c.ComesSoFar limit start.file (unread c end) out (sink_at out end).written) (stands t);
      report = λ t. printed t ∙ fresh.report_empty t;
    })
      where
        ports : Ports limit hp lp cells start at end
        ports = elim ran [
          | inl opens ↦ elim opens [
            | inl e ↦ fails_at_hp limit hp lp cells start at fresh end e
            | inr e ↦ fails_at_lp limit hp lp cells start at fresh end e
          ]
          | inr w ↦ has_worked limit hp lp cells start at fresh end s (Err ReadFault) w
        ]

        at_lp : (A : Type 0) (o : Option (List ℕ)) (f : Meaning → A) → ((src : Source) (hp_src : Source) (n : ℕ) → f (record before { hp = hp_src; lp = src; read_faults = n }) ≡ f before)
            → FailsAtLp hp o before end → f end ≡ f before
        at_lp A None f same e = absurd e
        at_lp A (Some lp_name) f same e = ap f e ∙ same (record { asked = Some lp_name; attached = start.lp.attached; left = start.lp.left }) (record { asked = Some hp; attached = true; left = start.file hp }) end.read_faults

        stands : start.tells ≡ true → end.cells_out.created ≡ true → c.ComesSoFar limit start.file (unread c end) outs.Cells end.cells_out.written
        stands t is = elim ran [
          | inl opens ↦ absurd (elim opens [
            | inl e ↦ true≢false (sym is ∙ ap (λ (x : Meaning). x.cells_out.created) e ∙ fresh.cells_out.created)
            | inr e ↦ true≢false (sym is ∙ at_lp Bool lp (λ x. x.cells_out.created) (λ a b n. refl) e ∙ fresh.cells_out.created)
          ])
          | inr w ↦ (
            s,
            settings.stated t,
            subst (λ (l : Stream → List ℕ). HoldsSymbolsSoFar s limit files l end.cells_out.written) (left_same (Err ReadFault) w) (w.modulates t).0,
          )
        ]

        printed : start.tells ≡ true → end.report.written ≡ start.report.written
        printed t = elim ran [
          | inl opens ↦ elim opens [
            | inl e ↦ ap (λ (x : Meaning). x.report.written) e
            | inr e ↦ at_lp (List ℕ) lp (λ x. x.report.written) (λ a b n. refl) e
          ]
          | inr w ↦ w.printed t
        ]
    by_refusal WriteFault cause ran = refused end ports WriteFault refl (cause.0, fault cause.1) tt (later_reads cause.0) cause.2 tt (record {
      outputs = λ t. only (λ out. (sink_at out end).created ≡ true → (bytes : List ℕ) × c.Comes limit start.file out bytes × ((k : ℕ) × ((sink_at out end).written ≡ take k bytes))) (stands t);
      report = λ t. (lines, (s, settings.stated t, refl), printed t);
    })
      where
        ports : Ports limit hp lp cells start at end
        ports = elim ran [
          | inl e ↦ fails_at_cells limit hp lp cells start at fresh end e
          | inr w ↦ has_worked limit hp lp cells start at fresh end s (Err WriteFault) w
        ]

        stands : start.tells ≡ true → end.cells_out.created ≡ true → (bytes : List ℕ) × c.Comes limit start.file outs.Cells bytes × ((k : ℕ) × (end.cells_out.written ≡ take k bytes))
        stands t is = elim ran [
          | inl e ↦ absurd (true≢false (sym is ∙ ap (λ (x : Meaning). x.cells_out.created) e ∙ fresh.cells_out.created))
          | inr w ↦ (cells_sent s limit (inputs_of files), (s, settings.stated t, refl), (w.modulates t).0)
        ]

        printed : start.tells ≡ true → (k : ℕ) × (end.report.written ≡ take k lines)
        printed t = elim ran [
          | inl e ↦ (0, ap (λ (x : Meaning). x.report.written) e ∙ fresh.report_empty t)
          | inr w ↦ let k = w.printed t in (k.0, k.1 ∙ empty (take k.0 lines) t)
        ]
    by_refusal (NotSync σ p) cause ran = elim ran [
      | inl opens ↦ absurd opens
      | inr w ↦ refused end (has_worked limit hp lp cells start at fresh end s (Err (NotSync σ p)) w) (NotSync σ p) refl cause.0 (settled_is cause.1) (omega (arith, cause.0)) (later_writes cause.1)
          (λ t. refusal_is t ∙ (w.modulates t).0.0) (holds (NotSync σ p) w (λ t. (w.modulates t).0) w.printed)
    ]
    by_refusal (Limit n) cause ran = elim ran [
      | inl opens ↦ absurd opens
      | inr w ↦ refused end (has_worked limit hp lp cells start at fresh end s (Err (Limit n)) w) (Limit n) refl cause.0 (settled_is cause.1) (omega (arith, cause.0)) (later_writes cause.1)
          (λ t. refusal_is t ∙ (w.modulates t).0.0) (holds (Limit n) w (λ t. (w.modulates t).0) w.printed)
    ]

    pub by_outcome : (o : Result TransmissionCounts Refusal) → HasEndCause (start.tells ≡ true → IsAccepted s limit files) before end o → Ran s limit hp lp cells before end o → Ended c limit start end (refusal_in o)
    by_outcome (Ok counts) cause w = ended end (has_worked limit hp lp cells start at fresh end s (Ok counts) w) None refl (cause.0.reads, cause.0.writes, cause.1) tt (omega (arith, cause.0.reads)) (omega (arith, cause.0.writes))
        (λ t. refusal_is t ∙ (w.modulates t).3)
        (λ is. open_at end (has_worked limit hp lp cells start at fresh end s (Ok counts) w) (hp_open (Ok counts) w, lp_open (Ok counts) w))
        (λ is t. read_out t)
        (record {
          made = made (Ok counts) w;
          outputs = λ t. only (λ out. c.Comes limit start.file out (sink_at out end).written) (s, settings.stated t, (w.modulates t).4);
          report = λ t. (s, settings.stated t, w.printed t ∙ empty lines t);
        })
      where
        read_out : start.tells ≡ true → (port : InPort) → IsInput c port → (source_at port end).left ≡ []
        read_out t ins.Settings is = ap (λ (x : Meaning). x.settings.left) w.ports.others ∙ settings.left t
        read_out t ins.Hp is = (w.modulates t).1
        read_out t ins.Lp is = sym (ap (λ (b : Bool). if b then end.lp.left else []) (lp_open (Ok counts) w is)) ∙ (w.modulates t).2
        read_out t ins.Cells is = absurd (true≢false (sym is))
    by_outcome (Err r) cause ran = by_refusal r cause ran
