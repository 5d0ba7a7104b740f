-- From the state that a command leaves to the promise of its run: the text of a refusal changes only Report.
use Rattle.std.proofs.Common.{◌≡◌, ◌≢◌, ◌⊎◌, inl, inr, true, false, ℕ, ◌≤◌, Bool, List, [], ◌∷◌, ◌++◌, take, drop, refl, ◌∙◌, sym, ap, subst, arith, Option, None, Some}
use Rattle.std.specs.Prelude.{is_some, if◌then◌else◌, ◌==◌, ◌||◌}
use Rattle.std.proofs.lemmas.Bool.{eqb-true, true≢false}
use Rattle.station_core.specs.Meaning.{Meaning, IsUntouched, Source, Sink, source_at, sink_at}
use Rattle.station_core.specs.Causes.{Rose}
use Rattle.station_core.specs.declared.ports.InPort.{InPort}
use Rattle.station_core.specs.declared.ports.InPort.TheVariants as ins
use Rattle.station_core.specs.declared.ports.OutPort.{OutPort}
use Rattle.station_core.specs.declared.ports.OutPort.TheVariants as outs
use Rattle.cmd_base.specs.declared.refusal.Refusal.{Refusal}
use Rattle.cmd_base.specs.declared.refusal.Refusal.TheVariants.{Usage, Settings, ReadFault, WriteFault, NotSync, Memory, Limit, Cells}
use Rattle.cmd_base.specs.Command.{Command, Files, Unread, IsInput, IsOutput, is_among, refusal_of, input_file, unread}
use Rattle.cmd_base.specs.declared.refusal.CellsRefusal.TheVariants.{Header, NoPlace, AnnouncedForm}
use Rattle.cmd_base.specs.Header.{header_size, IsHeaderTaken}
use Rattle.cmd_base.specs.Run.{Run, header_at, Reports, AreMadeEmpty, AsksSettingsAlone, IsUntaken}
use Rattle.cmd_base.specs.Text.{status_of, refusal_status, refusal_text, text_at, text_if_refused}
use Rattle.cmd_base.specs.Causes.{AreReadsKept, IsSettled}
use Rattle.cmd_base.specs.Report.{WritesText}
use Rattle.cmd_base.specs.Ended.{Ended, IsWriteFault, Hold, HoldSoFar, HoldFronts, HoldEmpty, HoldNothing, HoldUnheaded, AreMade}

pub run_done : (c : Command) (limit : ℕ) (old new : Meaning) → Ended c limit old new None → Run c limit old new 0
run_done c limit old new e = record {
  known = e.known;
  read_fault = λ is. absurd (omega arith);
  write_fault = λ is. absurd (omega arith);
  refusal_first = λ t some is. absurd (omega arith);
  reads_kept = λ other. inl e.caused.0;
  writes_kept = λ is. e.caused.1;
  closes_kept = λ is. e.caused.2;
  written_first = λ other unrisen. e.caused.1;
  handed_over = λ undone. absurd (undone refl);
  exact = λ t a b d. ap status_of (sym (e.exact t));
  complete = λ t none a b d. inl refl;
  sources = e.sources;
  sinks = e.sinks;
  settings_first = e.settings_first;
  lp_behind_hp = e.lp_behind_hp;
  outputs_behind_inputs = e.outputs_behind_inputs;
  unasked = e.unasked;
  outputs_behind_header = e.outputs_behind_header;
  lp_made_behind_hp = e.lp_made_behind_hp;
  work_behind_outputs = e.work_behind_outputs;
  taken = e.taken;
  opened = λ is. e.opened refl;
  read_out = λ is. e.read_out refl;
  closed = e.closed;
  made = λ is. e.leaves.made;
  same_telling = e.same_telling;
  same_files = e.same_files;
  report_open = e.report_open;
  done = λ t is. e.leaves.outputs t;
  done_report = λ t is. e.leaves.report t;
  early = λ is. absurd (true≢false (sym is));
  lacking = λ is. absurd (omega arith);
  lacking_at_work = λ t is. absurd (omega arith);
  early_report = λ t is. absurd (true≢false (sym is));
  unheaded = λ is. absurd (omega arith);
  unheaded_taken = λ t is. absurd (omega arith);
  unheaded_report = λ t is. absurd (omega arith);
  refused = λ t is. absurd (true≢false (sym is));
  refused_report = λ t is. absurd (true≢false (sym is));
  stopped = λ t is. absurd (omega arith);
  stopped_report = λ t is. absurd (omega arith);
  front = λ t is. absurd (omega arith);
  front_report = λ t is. absurd (omega arith);
  own = e.own;
}

-- 2, 3 or 7
cases_early : (status : ℕ) → is_among status (2 ∷ 3 ∷ 7 ∷ []) ≡ true → (is_among status (2 ∷ 3 ∷ []) ≡ true) ⊎ (status ≡ 7)
cases_early status is = go (status == 2) (status == 3) (status == 7) refl is
  where
    go : (a b d : Bool) → (status == 7) ≡ d → (a || (b || (d || false))) ≡ true → ((a || (b || false)) ≡ true) ⊎ (status ≡ 7)
    go true b d seven is = inl refl
    go false true d seven is = inl refl
    go false false true seven is = inr (eqb-true status 7 seven)
    go false false false seven is = absurd (true≢false (sym is))

module _ (c : Command) (limit : ℕ) (old mid new : Meaning) (text : List ℕ) (tells : WritesText text mid new) where
  source_same : (port : InPort) → source_at port new ≡ source_at port mid
  source_same ins.Settings = ap (λ (x : Meaning). x.settings) tells.others
  source_same ins.Hp = ap (λ (x : Meaning). x.hp) tells.others
  source_same ins.Lp = ap (λ (x : Meaning). x.lp) tells.others
  source_same ins.Cells = ap (λ (x : Meaning). x.cells) tells.others

  asked_same : (port : OutPort) → (sink_at port new).asked ≡ (sink_at port mid).asked
  asked_same outs.Cells = ap (λ (x : Meaning). x.cells_out.asked) tells.others
  asked_same outs.Hp = ap (λ (x : Meaning). x.hp_out.asked) tells.others
  asked_same outs.Lp = ap (λ (x : Meaning). x.lp_out.asked) tells.others
  asked_same outs.Bytes = ap (λ (x : Meaning). x.bytes_out.asked) tells.others
  asked_same outs.Report = ap (λ (x : Meaning). x.report.asked) tells.others

  sink_same : c.writes outs.Report ≡ None → (port : OutPort) → IsOutput c port → sink_at port new ≡ sink_at port mid
  sink_same none outs.Cells is = ap (λ (x : Meaning). x.cells_out) tells.others
  sink_same none outs.Hp is = ap (λ (x : Meaning). x.hp_out) tells.others
  sink_same none outs.Lp is = ap (λ (x : Meaning). x.lp_out) tells.others
  sink_same none outs.Bytes is = ap (λ (x : Meaning). x.bytes_out) tells.others
  sink_same none outs.Report is = absurd (true≢false (sym is ∙ ap is_some none))

  telling_same : new.tells ≡ mid.tells
  telling_same = ap (λ (x : Meaning). x.tells) tells.others

  files_same : new.file ≡ mid.file
  files_same = ap (λ (x : Meaning). x.file) tells.others

  reads_same : new.read_faults ≡ mid.read_faults
  reads_same = ap (λ (x : Meaning). x.read_faults) tells.others

  closes_same : new.close_faults ≡ mid.close_faults
  closes_same = ap (λ (x : Meaning). x.close_faults) tells.others

  unread_same : unread c new ≡ unread c mid
  unread_same = λ i port. at port i
    where
      at : (port : InPort) → unread c new port ≡ unread c mid port
      at port =
          ap (λ (s : Source). if s.attached then s.left else input_file new.file c port) (source_same port)
          ∙ ap (λ (f : Files). if (source_at port mid).attached then (source_at port mid).left else input_file f c port) files_same

  header_same : (port : InPort) → header_at c new port ≡ header_at c mid port
  header_same ins.Settings = refl
  header_same ins.Hp = refl
  header_same ins.Lp = refl
  header_same ins.Cells = ap (λ (f : Files). header_size (c.header f)) files_same

  untaken_same : (port : InPort) → IsUntaken c mid port → IsUntaken c new port
  untaken_same port none = (
    none.0,
    omega (arith, none.1, header_same port),
    ap (λ (u : Unread). u port) unread_same ∙ none.2 ∙ ap (λ (f : Files). drop none.0 (input_file f c port)) (sym files_same),
  )

  alone_same : AsksSettingsAlone mid → AsksSettingsAlone new
  alone_same a = record {
    sources = λ port other. ap (λ (s : Source). s.asked) (source_same port) ∙ a.sources port other;
    sinks = λ port. asked_same port ∙ a.sinks port;
  }

  all_attached : ((port : InPort) → IsInput c port → (source_at port mid).attached ≡ true) → (port : InPort) → IsInput c port → (source_at port new).attached ≡ true
  all_attached h port is = ap (λ (s : Source). s.attached) (source_same port) ∙ h port is

  -- the report after its earlier lines
  told_after : old.tells ≡ true → mid.tells ≡ old.tells → old.report_faults ≤ mid.report_faults → (lines : List ℕ) → mid.report.written ≡ lines
      → (named : List ℕ) → text ≡ named → Reports old new lines named
  told_after t telling later lines is named same =
      let f = tells.front (telling ∙ t) in
      record {
        front = (f.0, f.1 ∙ ap (λ (l : List ℕ). l ++ take f.0 text) is ∙ ap (λ (l : List ℕ). lines ++ take f.0 l) same);
        whole = λ unrisen. tells.whole (telling ∙ t) (λ rose. unrisen (omega (arith, rose, later)))
            ∙ ap (λ (l : List ℕ). l ++ text) is ∙ ap (λ (l : List ℕ). lines ++ l) same;
      }

  module _ (r : Refusal) (e : Ended c limit old mid (Some r)) where
    made_same : AreMade c mid → AreMade c new
    made_same h out is = ap (λ (s : Sink). s.created) (sink_same e.no_report out is) ∙ h out is

    -- the promise at a status, from the facts on each status
    run_at : (status : ℕ) → is_among status c.statuses ≡ true
        → (status ≡ 5 → Rose old.read_faults mid.read_faults)
        → (status ≡ 6 → IsWriteFault c limit old mid)
        → (status ≢ 5 → (mid.read_faults ≡ old.read_faults) ⊎ ((status ≡ 6) × Rose old.write_faults mid.write_faults))
        → (status ≢ 6 → IsSettled old mid)
        → status ≢ 0
        → (old.tells ≡ true → status ≢ 5 → status ≢ 6 → status ≢ 7 → status ≡ status_of (refusal_of limit old.file c))
        → (old.tells ≡ true → refusal_of limit old.file c ≡ None → (Rose old.read_faults mid.read_faults → ⊥) → (IsWriteFault c limit old mid → ⊥) → (status ≡ 0) ⊎ (status ≡ 7))
        → (old.tells ≡ true → text ≡ text_at c limit old.file status)
        → (is_among status (0 ∷ 4 ∷ 8 ∷ 10 ∷ 11 ∷ []) ≡ true → Hold c limit old mid)
        → (is_among status (4 ∷ 8 ∷ 10 ∷ 11 ∷ []) ≡ true → Hold c limit old mid)
        → (is_among status (2 ∷ 3 ∷ []) ≡ true → HoldNothing old mid)
        → (status ≡ 7 → HoldNothing old mid ⊎ HoldEmpty c limit old mid)
        → (status ≡ 5 → HoldSoFar c limit old mid)
        → (status ≡ 6 → HoldFronts c limit old mid)
        → (status ≡ 9 → HoldUnheaded c old mid)
        → Run c limit old new status
    run_at status known read write kept settled undone exact complete named held work nothing lacks stopped fronts unheaded = record {
      known = known;
      read_fault = λ is. subst (λ (n : ℕ). Rose old.read_faults n) (sym reads_same) (read is);
      write_fault = λ is. either (write is);
      refusal_first = λ t some is. written t some (write is);
      reads_kept = λ other. few_read (kept other);
      writes_kept = λ is. absurd (undone is);
      closes_kept = λ is. absurd (undone is);
      written_first = λ other unrisen. tells.kept (λ rose. unrisen (omega (arith, rose, e.later_report))) ∙ (settled other).writes;
      handed_over = λ some other. ap (λ (x : Meaning). x.pending) tells.others ∙ (settled other).settled;
      exact = exact;
      complete = λ t none a b d. complete t none (λ rose. a (subst (λ (n : ℕ). Rose old.read_faults n) (sym reads_same) rose)) (λ fault. neither b d (either fault));
      sources = λ port. subst (λ (s : Source). (s.asked ≡ None) ⊎ (s.asked ≡ c.reads port)) (sym (source_same port)) (e.sources port);
      sinks = λ port. subst (λ (s : Option (List ℕ)). (s ≡ None) ⊎ (s ≡ c.writes port)) (sym (asked_same port)) (e.sinks port);
      settings_first = λ is. first (e.settings_first is);
      lp_behind_hp = subst (λ (s : Source). (s.asked ≡ None) ⊎ (new.hp.attached ≡ true)) (sym (source_same ins.Lp))
          (subst (λ (s : Source). (mid.lp.asked ≡ None) ⊎ (s.attached ≡ true)) (sym (source_same ins.Hp)) e.lp_behind_hp);
      outputs_behind_inputs = λ out. behind out (e.outputs_behind_inputs out);
      unasked = λ out is none. subst IsUntouched (sym (sink_same e.no_report out is)) (e.unasked out is (sym (asked_same out) ∙ none));
      outputs_behind_header = λ t out. headed t out (e.outputs_behind_header t out);
      lp_made_behind_hp = subst (λ (m : Meaning). (m.lp_out.asked ≡ None) ⊎ (m.hp_out.created ≡ true)) (sym tells.others) e.lp_made_behind_hp;
      work_behind_outputs = λ t port other is. untaken port (e.work_behind_outputs t port other is);
      taken = λ t port is attached. took t port is attached;
      opened = λ is. absurd (undone is);
      read_out = λ is. absurd (undone is);
      closed = λ out is made. shut out is made;
      made = λ is. made_same (held is).made;
      same_telling = telling_same ∙ e.same_telling;
      same_files = files_same ∙ e.same_files;
      report_open = ap (λ (x : Meaning). x.report.closed) tells.others ∙ e.report_open;
      done = λ t is. absurd (undone is);
      done_report = λ t is. absurd (undone is);
      early = λ is. alone_same (nothing is).asks;
      lacking = λ is. lacking (lacks is);
      lacking_at_work = λ t is. elim (lacks is) [ inl none ↦ inl (alone_same none.asks) | inr empty ↦ inr (subst (λ (u : Unread). c.LacksAtWork limit old.file u) (sym unread_same) (empty.lacks t)) ];
      early_report = λ t is. told_after t e.same_telling e.later_report [] (none_printed t is (cases_early status is)) (text_at c limit old.file status) (named t);
      unheaded = λ is out output. subst IsUntouched (sym (sink_same e.no_report out output)) ((unheaded is).outputs out output);
      unheaded_taken = λ t is port other reads. untaken_same port ((unheaded is).taken t port other reads);
      unheaded_report = λ t is. told_after t e.same_telling e.later_report [] ((unheaded is).report t) (text_at c limit old.file status) (named t);
      refused = λ t is out output. subst (λ (s : Sink). c.Comes limit old.file out s.written) (sym (sink_same e.no_report out output)) ((work is).outputs t out output);
      refused_report = λ t is. (
        mid.report.written,
        (work is).report t,
        told_after t e.same_telling e.later_report mid.report.written refl (text_at c limit old.file status) (named t),
      );
      stopped = λ t is out output made.
          let same = sink_same e.no_report out output in
          subst (λ (s : Sink). c.ComesSoFar limit old.file (unread c new) out s.written) (sym same)
          (subst (λ (u : Unread). c.ComesSoFar limit old.file u out (sink_at out mid).written) (sym unread_same)
          ((stopped is).outputs t out output (ap (λ (s : Sink). s.created) (sym same) ∙ made)));
      stopped_report = λ t is. (
        mid.report.written,
        subst (λ (u : Unread). c.PrintsSoFar limit old.file u mid.report.written) (sym unread_same) ((stopped is).report t),
        told_after t e.same_telling e.later_report mid.report.written refl (text_at c limit old.file status) (named t),
      );
      front = λ t is out output made.
          let same = sink_same e.no_report out output in
          let f = (fronts is).outputs t out output (ap (λ (s : Sink). s.created) (sym same) ∙ made) in
          (f.0, f.1, (f.2.0, ap (λ (s : Sink). s.written) same ∙ f.2.1));
      front_report = λ t is.
          let f = (fronts is).report t in
          (f.0, f.1, (f.2.0, told_after t e.same_telling e.later_report (take f.2.0 f.0) f.2.1 (text_at c limit old.file status) (named t)));
      own = e.own;
    }
      where
        lacking : HoldNothing old mid ⊎ HoldEmpty c limit old mid → AsksSettingsAlone new ⊎ ((c.memory_at_work ≡ true) × AreMadeEmpty c new)
        lacking (inl none) = inl (alone_same none.asks)
        lacking (inr empty) = inr (
          empty.at_work,
          record {
            made = made_same empty.outputs.made;
            empty = λ t out is. ap (λ (s : Sink). s.written) (sink_same e.no_report out is) ∙ empty.outputs.empty (sym telling_same ∙ t) out is;
          },
        )

        none_printed : old.tells ≡ true → is_among status (2 ∷ 3 ∷ 7 ∷ []) ≡ true → (is_among status (2 ∷ 3 ∷ []) ≡ true) ⊎ (status ≡ 7) → mid.report.written ≡ []
        none_printed t is (inl early) = (nothing early).report t
        none_printed t is (inr seven) = elim (lacks seven) [ inl none ↦ none.report t | inr empty ↦ empty.report t ]

        risen : Rose old.write_faults mid.write_faults → Rose old.write_faults new.write_faults
        risen rose = omega (arith, rose, tells.later)

        few_read : (mid.read_faults ≡ old.read_faults) ⊎ ((status ≡ 6) × Rose old.write_faults mid.write_faults)
            → (new.read_faults ≡ old.read_faults) ⊎ ((status ≡ 6) × Rose old.write_faults new.write_faults)
        few_read (inl same) = inl (reads_same ∙ same)
        few_read (inr both) = inr (both.0, risen both.1)

        either : IsWriteFault c limit old mid → Rose old.write_faults new.write_faults ⊎ Rose old.close_faults new.close_faults
        either (inl rose) = inl (risen rose)
        either (inr shut) = inr (subst (λ (n : ℕ). Rose old.close_faults n) (sym closes_same) shut.0)

        neither : (Rose old.write_faults new.write_faults → ⊥) → (Rose old.close_faults new.close_faults → ⊥) → Rose old.write_faults new.write_faults ⊎ Rose old.close_faults new.close_faults → ⊥
        neither b d (inl rose) = b rose
        neither b d (inr rose) = d rose

        written : old.tells ≡ true → refusal_of limit old.file c ≢ None → IsWriteFault c limit old mid → Rose old.write_faults new.write_faults
        written t some (inl rose) = risen rose
        written t some (inr shut) = absurd (some (shut.1 t))

        first : AsksSettingsAlone mid ⊎ ((mid.settings.attached ≡ true) × (old.tells ≡ true → (mid.settings.left ≡ []) × (c.early_refusal old.file ≡ None)))
            → AsksSettingsAlone new ⊎ ((new.settings.attached ≡ true) × (old.tells ≡ true → (new.settings.left ≡ []) × (c.early_refusal old.file ≡ None)))
        first (inl alone) = inl (alone_same alone)
        first (inr read) = inr (ap (λ (s : Source). s.attached) (source_same ins.Settings) ∙ read.0, λ t. (ap (λ (s : Source). s.left) (source_same ins.Settings) ∙ (read.1 t).0, (read.1 t).1))

        behind : (out : OutPort) → ((sink_at out mid).asked ≡ None) ⊎ ((port : InPort) → IsInput c port → (source_at port mid).attached ≡ true)
            → ((sink_at out new).asked ≡ None) ⊎ ((port : InPort) → IsInput c port → (source_at port new).attached ≡ true)
        behind out (inl unasked) = inl (asked_same out ∙ unasked)
        behind out (inr all) = inr (all_attached all)

        headed : (t : old.tells ≡ true) (out : OutPort) → ((sink_at out mid).asked ≡ None) ⊎ IsHeaderTaken (c.header old.file) (input_file old.file c ins.Cells) (unread c mid ins.Cells)
            → ((sink_at out new).asked ≡ None) ⊎ IsHeaderTaken (c.header old.file) (input_file old.file c ins.Cells) (unread c new ins.Cells)
        headed t out (inl unasked) = inl (asked_same out ∙ unasked)
        headed t out (inr taken) = inr (subst (λ (u : Unread). IsHeaderTaken (c.header old.file) (input_file old.file c ins.Cells) (u ins.Cells)) (sym unread_same) taken)

        untaken : (port : InPort) → IsUntaken c mid port ⊎ AreMade c mid → IsUntaken c new port ⊎ AreMade c new
        untaken port (inl none) = inl (untaken_same port none)
        untaken port (inr all) = inr (made_same all)

        took : old.tells ≡ true → (port : InPort) → IsInput c port → (source_at port new).attached ≡ true
            → (k : ℕ) × (k ≤ c.most_taken limit old.file port) × ((source_at port new).left ≡ drop k (input_file old.file c port))
        took t port is attached =
            let k = e.taken t port is (ap (λ (s : Source). s.attached) (sym (source_same port)) ∙ attached) in
            (k.0, k.1, ap (λ (s : Source). s.left) (source_same port) ∙ k.2)

        shut : (out : OutPort) → IsOutput c out → (sink_at out new).created ≡ true → (sink_at out new).closed ≡ true
        shut out is made =
            let same = sink_same e.no_report out is in
            ap (λ (s : Sink). s.closed) same ∙ e.closed out is (ap (λ (s : Sink). s.created) (sym same) ∙ made)

module _ (c : Command) (limit : ℕ) (old mid new : Meaning) where
  -- the files give no refusal, and yet there is one
  refuted : (r : Refusal) → refusal_of limit old.file c ≡ Some r → refusal_of limit old.file c ≡ None → ⊥
  refuted r is none = let e : Some r ≡ None = sym is ∙ none in cc

  kept_at : (n : ℕ) → AreReadsKept old mid → (mid.read_faults ≡ old.read_faults) ⊎ ((n ≡ n) × Rose old.write_faults mid.write_faults)
  kept_at n (inl same) = inl same
  kept_at n (inr both) = inr (refl, both.1)

  named_by : (r : Refusal) → refusal_of limit old.file c ≡ Some r → refusal_text r ≡ text_if_refused (refusal_of limit old.file c)
  named_by r is = ap text_if_refused (sym is)

  pub run_refused : (r : Refusal) → Ended c limit old mid (Some r) → WritesText (refusal_text r) mid new → Run c limit old new (refusal_status r)
  run_refused Usage e tells = run_at c limit old mid new (refusal_text Usage) tells Usage e 2 e.known
      (λ is. absurd (omega arith)) (λ is. absurd (omega arith)) (λ other. inl e.caused) (λ other. e.settled) (λ is. absurd (omega arith))
      (λ t a b d. ap status_of (sym (e.exact t))) (λ t none a b. absurd (refuted Usage (e.exact t) none))
      (λ t. named_by Usage (e.exact t))
      (λ is. absurd (true≢false (sym is))) (λ is. absurd (true≢false (sym is))) (λ is. e.leaves) (λ is. absurd (omega arith)) (λ is. absurd (omega arith)) (λ is. absurd (omega arith)) (λ is. absurd (omega arith))
  run_refused (Settings reason) e tells = run_at c limit old mid new (refusal_text (Settings reason)) tells (Settings reason) e 3 e.known
      (λ is. absurd (omega arith)) (λ is. absurd (omega arith)) (λ other. inl e.caused) (λ other. e.settled) (λ is. absurd (omega arith))
      (λ t a b d. ap status_of (sym (e.exact t))) (λ t none a b. absurd (refuted (Settings reason) (e.exact t) none))
      (λ t. named_by (Settings reason) (e.exact t))
      (λ is. absurd (true≢false (sym is))) (λ is. absurd (true≢false (sym is))) (λ is. e.leaves) (λ is. absurd (omega arith)) (λ is. absurd (omega arith)) (λ is. absurd (omega arith)) (λ is. absurd (omega arith))
  run_refused (NotSync stream n) e tells = run_at c limit old mid new (refusal_text (NotSync stream n)) tells (NotSync stream n) e 4 e.known
      (λ is. absurd (omega arith)) (λ is. absurd (omega arith)) (λ other. inl e.caused) (λ other. e.settled) (λ is. absurd (omega arith))
      (λ t a b d. ap status_of (sym (e.exact t))) (λ t none a b. absurd (refuted (NotSync stream n) (e.exact t) none))
      (λ t. named_by (NotSync stream n) (e.exact t))
      (λ is. e.leaves) (λ is. e.leaves) (λ is. absurd (true≢false (sym is))) (λ is. absurd (omega arith)) (λ is. absurd (omega arith)) (λ is. absurd (omega arith)) (λ is. absurd (omega arith))
  run_refused ReadFault e tells = run_at c limit old mid new (refusal_text ReadFault) tells ReadFault e 5 e.known
      (λ is. e.caused) (λ is. absurd (omega arith)) (λ other. absurd (other refl)) (λ other. e.settled) (λ is. absurd (omega arith))
      (λ t a b d. absurd (a refl)) (λ t none a b. absurd (a e.caused))
      (λ t. refl)
      (λ is. absurd (true≢false (sym is))) (λ is. absurd (true≢false (sym is))) (λ is. absurd (true≢false (sym is))) (λ is. absurd (omega arith)) (λ is. e.leaves) (λ is. absurd (omega arith)) (λ is. absurd (omega arith))
  run_refused WriteFault e tells = run_at c limit old mid new (refusal_text WriteFault) tells WriteFault e 6 e.known
      (λ is. absurd (omega arith)) (λ is. e.caused.1) (λ other. kept_at 6 e.caused.0) (λ other. absurd (other refl)) (λ is. absurd (omega arith))
      (λ t a b d. absurd (b refl)) (λ t none a b. absurd (b e.caused.1))
      (λ t. refl)
      (λ is. absurd (true≢false (sym is))) (λ is. absurd (true≢false (sym is))) (λ is. absurd (true≢false (sym is))) (λ is. absurd (omega arith)) (λ is. absurd (omega arith)) (λ is. e.leaves) (λ is. absurd (omega arith))
  run_refused Memory e tells = run_at c limit old mid new (refusal_text Memory) tells Memory e 7 e.known
      (λ is. absurd (omega arith)) (λ is. absurd (omega arith)) (λ other. inl e.caused) (λ other. e.settled) (λ is. absurd (omega arith))
      (λ t a b d. absurd (d refl)) (λ t none a b. inr refl)
      (λ t. refl)
      (λ is. absurd (true≢false (sym is))) (λ is. absurd (true≢false (sym is))) (λ is. absurd (true≢false (sym is))) (λ is. e.leaves) (λ is. absurd (omega arith)) (λ is. absurd (omega arith)) (λ is. absurd (omega arith))
  run_refused (Limit n) e tells = run_at c limit old mid new (refusal_text (Limit n)) tells (Limit n) e 8 e.known
      (λ is. absurd (omega arith)) (λ is. absurd (omega arith)) (λ other. inl e.caused) (λ other. e.settled) (λ is. absurd (omega arith))
      (λ t a b d. ap status_of (sym (e.exact t))) (λ t none a b. absurd (refuted (Limit n) (e.exact t) none))
      (λ t. named_by (Limit n) (e.exact t))
      (λ is. e.leaves) (λ is. e.leaves) (λ is. absurd (true≢false (sym is))) (λ is. absurd (omega arith)) (λ is. absurd (omega arith)) (λ is. absurd (omega arith)) (λ is. absurd (omega arith))
  run_refused (Cells Header) e tells = run_at c limit old mid new (refusal_text (Cells Header)) tells (Cells Header) e 9 e.known
      (λ is. absurd (omega arith)) (λ is. absurd (omega arith)) (λ other. inl e.caused) (λ other. e.settled) (λ is. absurd (omega arith))
      (λ t a b d. ap status_of (sym (e.exact t))) (λ t none a b. absurd (refuted (Cells Header) (e.exact t) none))
      (λ t. named_by (Cells Header) (e.exact t))
      (λ is. absurd (true≢false (sym is))) (λ is. absurd (true≢false (sym is))) (λ is. absurd (true≢false (sym is))) (λ is. absurd (omega arith)) (λ is. absurd (omega arith)) (λ is. absurd (omega arith)) (λ is. e.leaves)
  run_refused (Cells NoPlace) e tells = run_at c limit old mid new (refusal_text (Cells NoPlace)) tells (Cells NoPlace) e 10 e.known
      (λ is. absurd (omega arith)) (λ is. absurd (omega arith)) (λ other. inl e.caused) (λ other. e.settled) (λ is. absurd (omega arith))
      (λ t a b d. ap status_of (sym (e.exact t))) (λ t none a b. absurd (refuted (Cells NoPlace) (e.exact t) none))
      (λ t. named_by (Cells NoPlace) (e.exact t))
      (λ is. e.leaves) (λ is. e.leaves) (λ is. absurd (true≢false (sym is))) (λ is. absurd (omega arith)) (λ is. absurd (omega arith)) (λ is. absurd (omega arith)) (λ is. absurd (omega arith))
  run_refused (Cells AnnouncedForm) e tells = run_at c limit old mid new (refusal_text (Cells AnnouncedForm)) tells (Cells AnnouncedForm) e 11 e.known
      (λ is. absurd (omega arith)) (λ is. absurd (omega arith)) (λ other. inl e.caused) (λ other. e.settled) (λ is. absurd (omega arith))
      (λ t a b d. ap status_of (sym (e.exact t))) (λ t none a b. absurd (refuted (Cells AnnouncedForm) (e.exact t) none))
      (λ t. named_by (Cells AnnouncedForm) (e.exact t))
      (λ is. e.leaves) (λ is. e.leaves) (λ is. absurd (true≢false (sym is))) (λ is. absurd (omega arith)) (λ is. absurd (omega arith)) (λ is. absurd (omega arith)) (λ is. absurd (omega arith))
