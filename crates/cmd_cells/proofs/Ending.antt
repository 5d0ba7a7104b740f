-- The state after a run on cells with accepted settings, before the text of a refusal is written; and the promise of
-- the run.
use Rattle.std.proofs.Common.{◌≡◌, ◌≢◌, ◌⊎◌, inl, inr, true, false, ℕ, ◌+◌, ◌*◌, ◌≤◌, Bool, List, [], ◌++◌, length, take, drop, Option, Some, None, Result, Ok, Err, refl, ◌∙◌, sym, ap, subst, arith, append_assoc, if◌then◌else◌}
use Rattle.std.specs.Prelude.{is_some, bytes_eq}
use Rattle.std.specs.Option.{option_or}
use Rattle.std.proofs.lemmas.Bool.{true≢false}
use Rattle.std.proofs.lemmas.List.{append-nil, drop-drop, take-append-drop}
use Rattle.std.proofs.lemmas.Slice.Eq.{bytes_eq-Decides}
use Rattle.std.proofs.Math.Nat.{div-eq_of_lt}
use Rattle.station_core.specs.Meaning.{Meaning, Source, Sink, IsFresh, IsUntouched, source_at, sink_at}
use Rattle.station_core.specs.Causes.{Rose}
use Rattle.station_core.specs.declared.ports.InPort.{InPort}
use Rattle.station_core.specs.declared.ports.InPort.TheVariants as ins
use Rattle.station_core.specs.declared.ports.OutPort.{OutPort}
use Rattle.station_core.specs.declared.ports.OutPort.TheVariants as outs
use Rattle.cmd_base.specs.declared.refusal.Refusal.{Refusal}
use Rattle.cmd_base.specs.declared.refusal.Refusal.TheVariants as refusals
use Rattle.cmd_base.specs.Command.{Command, Files, Unread, IsInput, IsOutput, is_among, named, refusal_of, input_file, unread}
use Rattle.cmd_base.specs.declared.refusal.CellsRefusal.TheVariants.{Header, NoPlace, AnnouncedForm}
use Rattle.cmd_base.specs.Header.{IsHeaderTaken, behind_header, header_refusal, header_size}
use Rattle.cmd_base.specs.Run.{IsUntaken, Run}
use Rattle.cmd_base.specs.Text.{refusal_status, refusal_text, status_of}
use Rattle.cmd_base.specs.Report.{WritesText}
use Rattle.cmd_base.specs.Causes.{AreReadsKept, IsSettled}
use Rattle.cmd_base.specs.Ended.{AreMade, Ended, Hold, HoldFronts, HoldSoFar, HoldUnheaded, IsCaused, IsExact, IsSettledAt, IsWriteFault, Leaves}
use Rattle.cmd_base.proofs.Whole.{run_done, run_refused}
use Rattle.cmd_cells.specs.declared.run_error.RunError.{RunError}
use Rattle.cmd_cells.specs.declared.run_error.RunError.TheVariants.{ReadFault, WriteFault, Limit}
use Rattle.cmd_cells.specs.declared.run_error.RunError.TheVariants as stops
use Rattle.cmd_cells.specs.Stops.{HasEndCause, refusal_in, stop_refusal}
use Rattle.cmd_cells.specs.Symbols.{symbols}
use Rattle.cmd_cells.specs.Work.{HasReason, Holds, Work, Written}
use Rattle.cmd_cells.specs.Outputs.{Names, made}
use Rattle.cmd_cells.specs.Cells.{EndsWithin, GivenBefore, GivenUpTo, IsCutShort, IsStopped, TakesAtMost}
use Rattle.cmd_cells.specs.Opening.{CellsOnly, IsUnopened, Opens, TakesHeader, opened}
use Rattle.cmd_cells.specs.Runs.{AsksOutputs, IsReady, IsUnmade, IsWorked, PortsOnly, RanBehind, RefusesCells, RunsBehind, RunsCells, Tells, outcome_status}
use Rattle.cmd_cells.specs.Commands.{CellCommand, Come, ComeSoFar, ComesRefused, Continues, MayRefuse, SettingsDone, reads_at}
use Rattle.cmd_cells.proofs.Fronts.{front_of}
use Rattle.cmd_cells.proofs.Runs.{name_at}

-- a refusal is not none
no_refusal : (r : Refusal) → Some r ≡ None → ⊥
no_refusal r e = cc

-- no port is written at the start
pub untouched : (m : Meaning) → IsFresh m → (port : OutPort) → port ≢ outs.Report → IsUntouched (sink_at port m)
untouched m fresh outs.Cells other = fresh.cells_out
untouched m fresh outs.Hp other = fresh.hp_out
untouched m fresh outs.Lp other = fresh.lp_out
untouched m fresh outs.Bytes other = fresh.bytes_out
untouched m fresh outs.Report other = absurd (other refl)

-- and none was requested
pub unasked : (m : Meaning) → IsFresh m → (port : OutPort) → (sink_at port m).asked ≡ None
unasked m fresh outs.Cells = fresh.cells_out.asked
unasked m fresh outs.Hp = fresh.hp_out.asked
unasked m fresh outs.Lp = fresh.lp_out.asked
unasked m fresh outs.Bytes = fresh.bytes_out.asked
unasked m fresh outs.Report = fresh.report_asked

-- the settings change no output
pub settings_sink : (m : Meaning) (source : Source) (port : OutPort) → sink_at port (record m { settings = source }) ≡ sink_at port m
settings_sink m source outs.Cells = refl
settings_sink m source outs.Hp = refl
settings_sink m source outs.Lp = refl
settings_sink m source outs.Bytes = refl
settings_sink m source outs.Report = refl

opened_sink : (cells : List ℕ) (header : Option (List ℕ)) (m : Meaning) (port : OutPort) → sink_at port (opened cells header m) ≡ sink_at port m
opened_sink cells header m outs.Cells = refl
opened_sink cells header m outs.Hp = refl
opened_sink cells header m outs.Lp = refl
opened_sink cells header m outs.Bytes = refl
opened_sink cells header m outs.Report = refl

-- nor does the port Cells
cells_sink : (m m' : Meaning) → CellsOnly m m' → (port : OutPort) → sink_at port m' ≡ sink_at port m
cells_sink m m' p outs.Cells = ap (λ (x : Meaning). x.cells_out) p
cells_sink m m' p outs.Hp = ap (λ (x : Meaning). x.hp_out) p
cells_sink m m' p outs.Lp = ap (λ (x : Meaning). x.lp_out) p
cells_sink m m' p outs.Bytes = ap (λ (x : Meaning). x.bytes_out) p
cells_sink m m' p outs.Report = ap (λ (x : Meaning). x.report) p

cells_ports : (m m' : Meaning) → CellsOnly m m' → PortsOnly m m'
cells_ports m m' p = subst (λ (x : Meaning). PortsOnly m x) (sym p) refl

-- a file with its header is the header, the bytes taken after it, and the rest
header_taken : (header : Option (List ℕ)) (file left : List ℕ) (k : ℕ) → header_refusal header file ≡ None → left ≡ drop k (behind_header header file) → IsHeaderTaken header file left
header_taken None file left k fits is = tt
header_taken (Some h) file left k fits is =
    let rest : List ℕ = behind_header (Some h) file in (
      take k rest,
      sym (take-append-drop (length h) file) ∙ ap (λ (l : List ℕ). l ++ rest) (front (bytes_eq (take (length h) file) h) refl fits)
          ∙ ap (λ (l : List ℕ). h ++ l) (sym (take-append-drop k rest) ∙ ap (λ (l : List ℕ). take k rest ++ l) (sym is))
          ∙ sym (append_assoc h (take k rest) left),
    )
  where
    front : (b : Bool) → bytes_eq (take (length h) file) h ≡ b → (if b then None else Some (refusals.Cells Header)) ≡ None → take (length h) file ≡ h
    front true same e = (bytes_eq-Decides (take (length h) file) h).0 same
    front false same e = absurd (no_refusal (refusals.Cells Header) e)

-- the bytes after a header and more
behind_more : (header : Option (List ℕ)) (file : List ℕ) (k : ℕ) → drop k (behind_header header file) ≡ drop (header_size header + k) file
behind_more None file k = let same : k ≡ 0 + k = omega arith in ap (λ (n : ℕ). drop n file) same
behind_more (Some h) file k = drop-drop k (length h) file

-- an output is not Report
pub not_report : (names : Names) → names outs.Report ≡ None → (port : OutPort) → is_some (names port) ≡ true → port ≢ outs.Report
not_report names none port is e = true≢false (sym is ∙ ap (λ (p : OutPort). is_some (names p)) e ∙ ap (λ (o : Option (List ℕ)). is_some o) none)

-- after the settings a run on cells is ready
pub ready : (names : Names) → names outs.Report ≡ None → (start : Meaning) (at : Source) → IsFresh start → IsReady names (record start { settings = at })
ready names none start at fresh = record {
  cells = fresh.cells;
  begin = record {
    outputs = λ port is. subst IsUntouched (sym (settings_sink start at port)) (untouched start fresh port (not_report names none port is));
    apart = none;
    report = fresh.report;
    report_open = fresh.report_open;
  };
}

module _ (c : Command) (limit : ℕ) (name cells : List ℕ) (header : Option (List ℕ)) (names : Names) (w : Work) (most : ℕ) (start mid : Meaning) (at : Source) (fresh : IsFresh start) (settings : SettingsDone c limit name start at)
    (command : CellCommand c limit name cells header names w most start) (others : PortsOnly (record start { settings = at }) mid) (cells_asked : mid.cells.asked ≡ Some cells) (asks : AsksOutputs names (record start { settings = at }) mid)
    (taken : start.tells ≡ true → mid.cells.attached ≡ true → (k : ℕ) × (k ≤ header_size header + (most + 1) * w.size) × (mid.cells.left ≡ drop k (start.file cells))) (later_report : start.report_faults ≤ mid.report_faults) where
  abbrev old : Meaning
  old = record start { settings = at }

  -- the cells after their header
  abbrev file : List ℕ
  file = behind_header header (start.file cells)

  told : start.tells ≡ true → mid.tells ≡ true
  told t = ap (λ (x : Meaning). x.tells) others ∙ t

  files_same : mid.file ≡ start.file
  files_same = ap (λ (x : Meaning). x.file) others

  -- ---- the refusal of the files
  abbrev of_header : Option Refusal
  of_header = header_refusal (c.header start.file) (input_file start.file c ins.Cells)

  of_header_is : start.tells ≡ true → of_header ≡ header_refusal header (start.file cells)
  of_header_is t = ap (λ (h : Option (List ℕ)). header_refusal h (input_file start.file c ins.Cells)) (command.header_is t) ∙ ap (λ (o : Option (List ℕ)). header_refusal header (named start.file o)) (command.reads ins.Cells)

  refusal_by : (r h : Option Refusal) → header_refusal header (start.file cells) ≡ h → option_or h (c.work_refusal limit start.file) ≡ r → start.tells ≡ true → refusal_of limit start.file c ≡ r
  refusal_by r h fits is t =
      ap (λ (o : Option Refusal). option_or o (option_or of_header (c.work_refusal limit start.file))) (settings.accepted t)
      ∙ ap (λ (o : Option Refusal). option_or o (c.work_refusal limit start.file)) (of_header_is t ∙ fits) ∙ is

  -- ---- the ports
  settings_is : mid.settings ≡ at
  settings_is = ap (λ (x : Meaning). x.settings) others

  lp_unasked : mid.lp.asked ≡ None
  lp_unasked = ap (λ (x : Meaning). x.lp.asked) others ∙ fresh.lp.asked

  sources : (port : InPort) → ((source_at port mid).asked ≡ None) ⊎ ((source_at port mid).asked ≡ c.reads port)
  sources ins.Settings = inr (ap (λ (x : Source). x.asked) settings_is ∙ settings.asked ∙ sym (command.reads ins.Settings))
  sources ins.Hp = inl (ap (λ (x : Meaning). x.hp.asked) others ∙ fresh.hp.asked)
  sources ins.Lp = inl lp_unasked
  sources ins.Cells = inr (cells_asked ∙ sym (command.reads ins.Cells))

  sinks : (port : OutPort) → ((sink_at port mid).asked ≡ None) ⊎ ((sink_at port mid).asked ≡ c.writes port)
  sinks port = elim (asks port) [
    | inl same ↦ inl (same ∙ ap (λ (x : Sink). x.asked) (settings_sink start at port) ∙ unasked start fresh port)
    | inr is ↦ inr (is ∙ sym (command.writes port))
  ]

  is_output : (port : OutPort) → IsOutput c port → is_some (names port) ≡ true
  is_output port is = ap (λ (o : Option (List ℕ)). is_some o) (sym (command.writes port)) ∙ is

  -- a fact of each input
  both : (P : InPort → Type 0) → P ins.Settings → P ins.Cells → (port : InPort) → IsInput c port → P port
  both P p q port is = go port (ap (λ (o : Option (List ℕ)). is_some o) (sym (command.reads port)) ∙ is)
    where
      go : (port : InPort) → is_some (reads_at name cells port) ≡ true → P port
      go ins.Settings is = p
      go ins.Hp is = absurd (true≢false (sym is))
      go ins.Lp is = absurd (true≢false (sym is))
      go ins.Cells is = q

  input_cells : (files : Files) → input_file files c ins.Cells ≡ files cells
  input_cells files = ap (λ (o : Option (List ℕ)). named files o) (command.reads ins.Cells)

  input_settings : (files : Files) → input_file files c ins.Settings ≡ files name
  input_settings files = ap (λ (o : Option (List ℕ)). named files o) (command.reads ins.Settings)

  all_opened : mid.cells.attached ≡ true → (port : InPort) → IsInput c port → (source_at port mid).attached ≡ true
  all_opened is_open = both (λ port. (source_at port mid).attached ≡ true) (ap (λ (x : Source). x.attached) settings_is ∙ settings.attached) is_open

  -- the unread cells, whether they are open or not
  unread_open : mid.cells.attached ≡ true → unread c mid ins.Cells ≡ mid.cells.left
  unread_open is_open = ap (λ (b : Bool). if b then mid.cells.left else input_file mid.file c ins.Cells) is_open

  unread_shut : mid.cells.attached ≡ false → unread c mid ins.Cells ≡ input_file mid.file c ins.Cells
  unread_shut shut = ap (λ (b : Bool). if b then mid.cells.left else input_file mid.file c ins.Cells) shut

  takes : start.tells ≡ true → (port : InPort) → IsInput c port → (source_at port mid).attached ≡ true
      → (k : ℕ) × (k ≤ c.most_taken limit start.file port) × ((source_at port mid).left ≡ drop k (input_file start.file c port))
  takes t = both (λ port. (source_at port mid).attached ≡ true → (k : ℕ) × (k ≤ c.most_taken limit start.file port) × ((source_at port mid).left ≡ drop k (input_file start.file c port)))
      (λ is_open. let r = settings.read t in (r.0, r.1, ap (λ (x : Source). x.left) settings_is ∙ r.2 ∙ ap (drop r.0) (sym (input_settings start.file))))
      (λ is_open. let r = taken t is_open in (r.0, omega (arith, r.1, command.most_taken t), r.2 ∙ ap (drop r.0) (sym (input_cells start.file))))

  -- ---- the order, and the closing, at any point of the run
  record InOrder : Type 0 where
    behind_inputs : (out : OutPort) → ((sink_at out mid).asked ≡ None) ⊎ ((port : InPort) → IsInput c port → (source_at port mid).attached ≡ true)
    behind_header : start.tells ≡ true → (out : OutPort) → ((sink_at out mid).asked ≡ None) ⊎ IsHeaderTaken (c.header start.file) (input_file start.file c ins.Cells) (unread c mid ins.Cells)
    unasked : (out : OutPort) → IsOutput c out → (sink_at out mid).asked ≡ None → IsUntouched (sink_at out mid)
    made_behind_hp : (mid.lp_out.asked ≡ None) ⊎ (mid.hp_out.created ≡ true)
    behind_outputs : start.tells ≡ true → IsUntaken c mid ins.Cells ⊎ AreMade c mid
    closed : (out : OutPort) → IsOutput c out → (sink_at out mid).created ≡ true → (sink_at out mid).closed ≡ true

  -- a requested output has its name
  asked_for : (out : OutPort) → IsOutput c out → (sink_at out mid).asked ≡ names out → (sink_at out mid).asked ≡ None → ⊥
  asked_for out is asked absent = true≢false (sym (is_output out is) ∙ ap (λ (o : Option (List ℕ)). is_some o) (sym asked ∙ absent))

  untouched_at : (out : OutPort) → IsOutput c out → sink_at out mid ≡ sink_at out start → IsUntouched (sink_at out mid)
  untouched_at out is same = subst IsUntouched (sym same) (untouched start fresh out (not_report names command.no_report out (is_output out is)))

  same_sink : IsUnopened cells header old mid → (out : OutPort) → sink_at out mid ≡ sink_at out start
  same_sink none out = cells_sink old mid none.others out ∙ settings_sink start at out

  untouched_yet : IsUnopened cells header old mid → (out : OutPort) → IsOutput c out → IsUntouched (sink_at out mid)
  untouched_yet none out is = untouched_at out is (same_sink none out)

  unmade_yet : IsUnopened cells header old mid → (out : OutPort) → IsOutput c out → (sink_at out mid).created ≡ true → ⊥
  unmade_yet none out is made = true≢false (sym made ∙ (untouched_yet none out is).created)

  unasked_yet : IsUnopened cells header old mid → (out : OutPort) → (sink_at out mid).asked ≡ None
  unasked_yet none out = ap (λ (x : Sink). x.asked) (same_sink none out) ∙ unasked start fresh out

  -- nothing past the header was taken
  header_alone : IsUnopened cells header old mid → start.tells ≡ true → TakesHeader header (start.file cells) (unread c mid ins.Cells)
  header_alone none t = elim none.taken [
    | inl shut ↦ (0, omega arith, unread_shut shut ∙ input_cells mid.file ∙ ap (λ (f : Files). f cells) files_same)
    | inr those ↦ let r = those.1 t in (r.0, r.1, unread_open those.0 ∙ r.2)
  ]

  untaken : (k : ℕ) → k ≤ header_size header → unread c mid ins.Cells ≡ drop k (start.file cells) → start.tells ≡ true → IsUntaken c mid ins.Cells
  untaken k few is t = (
    k,
    (let same : header_size (c.header mid.file) ≡ header_size header = ap (λ (f : Files). header_size (c.header f)) files_same ∙ ap header_size (command.header_is t) in omega (arith, few, same)),
    is ∙ ap (drop k) (ap (λ (f : Files). f cells) (sym files_same) ∙ sym (input_cells mid.file)),
  )

  untaken_yet : IsUnopened cells header old mid → start.tells ≡ true → IsUntaken c mid ins.Cells
  untaken_yet none t = let r = header_alone none t in untaken r.0 r.1 r.2 t

  unopened_order : IsUnopened cells header old mid → InOrder
  unopened_order none = record {
    behind_inputs = λ out. inl (unasked_yet none out);
    behind_header = λ t out. inl (unasked_yet none out);
    unasked = λ out is absent. untouched_yet none out is;
    made_behind_hp = inl (unasked_yet none outs.Lp);
    behind_outputs = λ t. inl (untaken_yet none t);
    closed = λ out is made. absurd (unmade_yet none out is made);
  }

  -- ---- all of it, by the refusal
  ended_by : (r : Option Refusal) → is_among (status_of r) c.statuses ≡ true → IsCaused c limit start mid r → IsSettledAt start mid r → start.read_faults ≤ mid.read_faults → start.write_faults ≤ mid.write_faults
      → IsExact c limit start r → InOrder → (r ≡ None → mid.cells.attached ≡ true) → (r ≡ None → start.tells ≡ true → mid.cells.left ≡ []) → Leaves c limit start mid r
      → Ended c limit start mid r
  ended_by r known caused settled later_reads later_writes exact order is_open read leaves = record {
    known = known;
    caused = caused;
    settled = settled;
    later_reads = later_reads;
    later_writes = later_writes;
    later_report = later_report;
    exact = exact;
    sources = sources;
    sinks = sinks;
    settings_first = λ is. inr (ap (λ (x : Source). x.attached) settings_is ∙ settings.attached, λ t. (ap (λ (x : Source). x.left) settings_is ∙ settings.left t, settings.accepted t));
    lp_behind_hp = inl lp_unasked;
    outputs_behind_inputs = order.behind_inputs;
    unasked = order.unasked;
    outputs_behind_header = order.behind_header;
    lp_made_behind_hp = order.made_behind_hp;
    work_behind_outputs = λ t port other is. both (λ port. port ≢ ins.Settings → IsUntaken c mid port ⊎ AreMade c mid) (λ other. absurd (other refl)) (λ other. order.behind_outputs t) port is other;
    taken = takes;
    opened = λ is. all_opened (is_open is);
    read_out = λ is t. both (λ port. (source_at port mid).left ≡ []) (ap (λ (x : Source). x.left) settings_is ∙ settings.left t) (read is t);
    closed = order.closed;
    no_report = command.writes outs.Report ∙ command.no_report;
    same_telling = ap (λ (x : Meaning). x.tells) others;
    same_files = files_same;
    report_open = ap (λ (x : Meaning). x.report.closed) others;
    leaves = leaves;
    own = command.own;
  }

  none_printed : IsUnopened cells header old mid → start.tells ≡ true → mid.report.written ≡ []
  none_printed none t = ap (λ (k : Sink). k.written) (same_sink none outs.Report) ∙ fresh.report_empty t

  same_writes : IsUnopened cells header old mid → start.write_faults ≤ mid.write_faults
  same_writes none = let same : mid.write_faults ≡ start.write_faults = ap (λ (x : Meaning). x.write_faults) none.others in omega (arith, same)

  -- nothing was given to an output
  settled_yet : IsUnopened cells header old mid → IsSettled start mid
  settled_yet none = record { settled = ap (λ (x : Meaning). x.pending) none.others ∙ fresh.settled; writes = ap (λ (x : Meaning). x.write_faults) none.others }

  -- the settings do not change that
  settled_is : IsSettled old mid → IsSettled start mid
  settled_is s = record { settled = s.settled; writes = s.writes }

  later_writes : IsSettled old mid → start.write_faults ≤ mid.write_faults
  later_writes s = omega (arith, s.writes)

  later_reads : AreReadsKept old mid → start.read_faults ≤ mid.read_faults
  later_reads (inl same) = omega (arith, same)
  later_reads (inr both) = both.0

  -- ---- the cells were not opened, or do not have their header
  shut_left : IsUnopened cells header old mid → HoldSoFar c limit start mid
  shut_left none = record {
    outputs = λ t out is made. absurd (unmade_yet none out is made);
    report = λ t. subst (λ (l : List ℕ). c.PrintsSoFar limit start.file (unread c mid) l) (sym (none_printed none t)) (command.unread t (unread c mid) (header_alone none t));
  }

  unheaded_left : IsUnopened cells header old mid → HoldUnheaded c start mid
  unheaded_left none = record {
    outputs = untouched_yet none;
    taken = λ t port other is. both (λ port. port ≢ ins.Settings → IsUntaken c mid port) (λ other. absurd (other refl)) (λ other. untaken_yet none t) port is other;
    report = none_printed none;
  }

  pub unopened_ended : (r : Refusal) → Opens cells header old mid (Err r) → Ended c limit start mid (Some r)
  unopened_ended refusals.ReadFault opens =
      ended_by (Some refusals.ReadFault) command.read_fault opens.1 (settled_yet opens.0) opens.2 (same_writes opens.0) tt (unopened_order opens.0) (λ is. absurd (no_refusal _ is)) (λ is t. absurd (no_refusal _ is)) (shut_left opens.0)
  unopened_ended (refusals.Cells Header) opens =
      ended_by (Some (refusals.Cells Header)) (command.unheaded opens.1) opens.2 (settled_yet opens.0) (omega (arith, opens.2)) (same_writes opens.0)
      (λ t. refusal_by (Some (refusals.Cells Header)) (Some (refusals.Cells Header)) (opens.3 t) refl t) (unopened_order opens.0) (λ is. absurd (no_refusal _ is)) (λ is t. absurd (no_refusal _ is)) (unheaded_left opens.0)
  unopened_ended (refusals.Cells NoPlace) opens = absurd opens
  unopened_ended (refusals.Cells AnnouncedForm) opens = absurd opens
  unopened_ended refusals.Usage opens = absurd opens
  unopened_ended (refusals.Settings reason) opens = absurd opens
  unopened_ended refusals.WriteFault opens = absurd opens
  unopened_ended (refusals.NotSync stream n) opens = absurd opens
  unopened_ended refusals.Memory opens = absurd opens
  unopened_ended (refusals.Limit n) opens = absurd opens

  -- ---- after opening the cells
  module _ (fits : start.tells ≡ true → header_refusal header (start.file cells) ≡ None) (taken_so : TakesAtMost ((most + 1) * w.size) (opened cells header old) mid) where
    -- the header was read
    taken_behind : start.tells ≡ true → (k : ℕ) → mid.cells.left ≡ drop k file → mid.cells.attached ≡ true → IsHeaderTaken (c.header start.file) (input_file start.file c ins.Cells) (unread c mid ins.Cells)
    taken_behind t k is is_open =
        subst (λ (h : Option (List ℕ)). IsHeaderTaken h (input_file start.file c ins.Cells) (unread c mid ins.Cells)) (sym (command.header_is t))
        (subst (λ (l : List ℕ). IsHeaderTaken header l (unread c mid ins.Cells)) (sym (input_cells start.file)) (header_taken header (start.file cells) (unread c mid ins.Cells) k (fits t) (unread_open is_open ∙ is)))

    unmade_order : IsUnmade names (opened cells header old) mid → InOrder
    unmade_order none = record {
      behind_inputs = λ out. inr (all_opened (ap (λ (x : Source). x.attached) none.cells));
      unasked = λ out is absent. elim (none.asked out (is_output out is)) [
        | inl same ↦ untouched_at out is (same ∙ opened_sink cells header old out ∙ settings_sink start at out)
        | inr asked ↦ absurd (asked_for out is asked absent)
      ];
      made_behind_hp = elim none.lp_behind [
        | inl same ↦ inl (ap (λ (x : Sink). x.asked) same ∙ fresh.lp_out.asked)
        | inr made ↦ inr made
      ];
      behind_header = λ t out. inr (taken_behind t 0 (ap (λ (x : Source). x.left) none.cells) (ap (λ (x : Source). x.attached) none.cells));
      behind_outputs = λ t. inl (untaken (header_size header) (omega arith) (unread_open (ap (λ (x : Source). x.attached) none.cells) ∙ ap (λ (x : Source). x.left) none.cells ∙ behind_more header (start.file cells) 0 ∙ ap (λ (k : ℕ). drop k (start.file cells)) (omega arith)) t);
      closed = λ out is made. (none.shut out (is_output out is) made).0;
    }

    all_made : (result : Result (Unit {0}) RunError) → IsWorked w most names (opened cells header old) mid result → AreMade c mid
    all_made result done out is = done.created out (is_output out is)

    lp_order : (result : Result (Unit {0}) RunError) → IsWorked w most names (opened cells header old) mid result → (mid.lp_out.asked ≡ None) ⊎ (mid.hp_out.created ≡ true)
    lp_order result done = elim done.lp_behind [ inl same ↦ inl (same ∙ fresh.lp_out.asked) | inr is ↦ inr is ]

    worked_order : (result : Result (Unit {0}) RunError) → IsWorked w most names (opened cells header old) mid result → InOrder
    worked_order result done = record {
      behind_inputs = λ out. inr (all_opened done.attached);
      unasked = λ out is absent. absurd (asked_for out is (done.asked out (is_output out is)) absent);
      made_behind_hp = lp_order result done;
      behind_header = λ t out. inr (let r = taken_so t in taken_behind t r.0 r.2 done.attached);
      behind_outputs = λ t. inr (all_made result done);
      closed = λ out is made. done.closed out (is_output out is);
    }

    order : (result : Result (Unit {0}) RunError) → RanBehind w most names (opened cells header old) mid result → InOrder
    order result ran = elim ran [ inl p ↦ unmade_order p.1 | inr p ↦ worked_order result p ]

    -- the output of a prefix of the cells is a prefix of the command's output
    first_of : start.tells ≡ true → (given : Written) × Continues c limit start.file given
    first_of t = (
      (command.comes t).first.0,
      (command.comes t).begun (command.comes t).first.0 (record {
        taken = [];
        rest = file;
        are = refl;
        within = let zero : symbols w.size [] ≡ 0 = div-eq_of_lt {n = 0} {m = w.size} command.some in omega (arith, zero);
        gives = inl (command.comes t).first.1;
      }),
    )

    -- so is the output before the cells are refused
    refused_continues : start.tells ≡ true → (left : Unread) (given : Written) (r : Refusal) → ComesRefused c limit start.file left given r → Continues c limit start.file given
    refused_continues t left given refusals.Memory came =
        let all = (first_of t).1 in
        record { all = all.all; come = all.come; begins = λ port. (all.all port, ap (λ (l : List ℕ). l ++ all.all port) (sym (came.1 port))) }
    refused_continues t left given (refusals.Cells reason) came = record { all = given; come = came.0; begins = λ port. ([], sym (append-nil (given port))) }
    refused_continues t left given refusals.Usage came = absurd came
    refused_continues t left given (refusals.Settings reason) came = absurd came
    refused_continues t left given refusals.ReadFault came = absurd came
    refused_continues t left given refusals.WriteFault came = absurd came
    refused_continues t left given (refusals.NotSync stream n) came = absurd came
    refused_continues t left given (refusals.Limit n) came = absurd came

    continues : start.tells ≡ true → (given : Written) → GivenUpTo w most file given ⊎ GivenBefore w most file given → Continues c limit start.file given
    continues t given (inl up) = (command.comes t).begun given up
    continues t given (inr b) = refused_continues t (λ port. b.rest) given b.refusal ((command.comes t).refused (λ port. b.rest) b.taken given b.refusal b.are b.within b.its b.refuses)

    -- ---- the state after each outcome
    module _ (result : Result (Unit {0}) RunError) (done : IsWorked w most names (opened cells header old) mid result) where
      -- the outputs were empty before the work, and so was Report
      base : (out : OutPort) → IsOutput c out → (sink_at out done.start).written ≡ []
      base out is = let n = name_at names out (is_output out is) in ap (λ (x : Sink). x.written) (done.made out n.0 n.1)

      base_report : start.tells ≡ true → done.start.report.written ≡ []
      base_report t = ap (λ (x : Sink). x.written) done.report ∙ fresh.report_empty t

      holds_at : (given : Written) → Holds done.start mid given → (out : OutPort) → IsOutput c out → (sink_at out mid).written ≡ given out
      holds_at given holds out is = holds out ∙ ap (λ (l : List ℕ). l ++ given out) (base out is)

      holds_report : (given : Written) → Holds done.start mid given → start.tells ≡ true → mid.report.written ≡ given outs.Report
      holds_report given holds t = holds outs.Report ∙ ap (λ (l : List ℕ). l ++ given outs.Report) (base_report t)

      hold_by : (start.tells ≡ true → (given : Written) × Come c limit start.file given × Holds done.start mid given) → Hold c limit start mid
      hold_by by = record {
        made = all_made result done;
        outputs = λ t out is. let p = by t in subst (λ (l : List ℕ). c.Comes limit start.file out l) (sym (holds_at p.0 p.2 out is)) (p.1.outputs out is);
        report = λ t. let p = by t in subst (λ (l : List ℕ). c.Prints limit start.file l) (sym (holds_report p.0 p.2 t)) p.1.report;
      }

      stopped_left : (start.tells ≡ true → IsStopped w most file done.start mid) → HoldSoFar c limit start mid
      stopped_left stopped = record {
        outputs = λ t out is made. let p = stopped t in
            subst (λ (l : List ℕ). c.ComesSoFar limit start.file (unread c mid) out l) (sym (holds_at p.given p.holds out is)) ((come t).outputs out is);
        report = λ t. let p = stopped t in subst (λ (l : List ℕ). c.PrintsSoFar limit start.file (unread c mid) l) (sym (holds_report p.given p.holds t)) (come t).report;
      }
        where
          come : (t : start.tells ≡ true) → ComeSoFar c limit start.file (unread c mid) (stopped t).given
          come t = let p = stopped t in
              (command.comes t).so_far (unread c mid) p.taken p.given (p.are ∙ ap (λ (l : List ℕ). p.taken ++ l) (sym (unread_open done.attached))) p.within p.gives

      -- a prefix of the output is a prefix of what begins with it
      front_at : (base given all w : List ℕ) (k : ℕ) → base ≡ [] → (rest : List ℕ) × (all ≡ given ++ rest) → w ≡ base ++ take k given → (j : ℕ) × (w ≡ take j all)
      front_at base given all w k none more is =
          let f = front_of given more.0 k in (f.0, is ∙ ap (λ (l : List ℕ). l ++ take k given) none ∙ f.1 ∙ ap (take f.0) (sym more.1))

      fronts_left : (start.tells ≡ true → IsCutShort w most file done.start mid) → HoldFronts c limit start mid
      fronts_left cut = record {
        outputs = λ t out is made. let p = cut t in let all = continues t p.given p.up in
            (all.all out, all.come.outputs out is, front_at (sink_at out done.start).written (p.given out) (all.all out) (sink_at out mid).written (p.holds out).0 (base out is) (all.begins out) (p.holds out).1);
        report = λ t. let p = cut t in let all = continues t p.given p.up in
            (all.all outs.Report, all.come.report, front_at done.start.report.written (p.given outs.Report) (all.all outs.Report) mid.report.written (p.holds outs.Report).0 (base_report t) (all.begins outs.Report) (p.holds outs.Report).1);
      }

    -- if an output was not created, nothing was written
    unmade_left : IsUnmade names (opened cells header old) mid → HoldFronts c limit start mid
    unmade_left none = record {
      outputs = λ t out is made. let all = (first_of t).1 in (all.all out, all.come.outputs out is, (0, (none.shut out (is_output out is) made).1));
      report = λ t. let all = (first_of t).1 in (all.all outs.Report, all.come.report, (0, ap (λ (k : Sink). k.written) none.report ∙ fresh.report_empty t));
    }

    -- ---- the work refused the cells
    caused_by : (r : Refusal) → MayRefuse c r → mid.read_faults ≡ start.read_faults → IsCaused c limit start mid (Some r)
    caused_by refusals.Memory may same = same
    caused_by (refusals.Cells reason) may same = same
    caused_by refusals.Usage may same = absurd may
    caused_by (refusals.Settings reason) may same = absurd may
    caused_by refusals.ReadFault may same = absurd may
    caused_by refusals.WriteFault may same = absurd may
    caused_by (refusals.NotSync stream n) may same = absurd may
    caused_by (refusals.Limit n) may same = absurd may

    settled_by : (r : Refusal) → MayRefuse c r → IsSettled start mid → IsSettledAt start mid (Some r)
    settled_by refusals.Memory may s = s
    settled_by (refusals.Cells reason) may s = s
    settled_by refusals.Usage may s = absurd may
    settled_by (refusals.Settings reason) may s = absurd may
    settled_by refusals.ReadFault may s = absurd may
    settled_by refusals.WriteFault may s = absurd may
    settled_by (refusals.NotSync stream n) may s = absurd may
    settled_by (refusals.Limit n) may s = absurd may

    exact_by : (r : Refusal) → MayRefuse c r → (start.tells ≡ true → (given : Written) × ComesRefused c limit start.file (unread c mid) given r) → IsExact c limit start (Some r)
    exact_by refusals.Memory may came = tt
    exact_by (refusals.Cells reason) may came = λ t. refusal_by (Some (refusals.Cells reason)) None (fits t) (came t).1.1 t
    exact_by refusals.Usage may came = absurd may
    exact_by (refusals.Settings reason) may came = absurd may
    exact_by refusals.ReadFault may came = absurd may
    exact_by refusals.WriteFault may came = absurd may
    exact_by (refusals.NotSync stream n) may came = absurd may
    exact_by (refusals.Limit n) may came = absurd may

    left_by : (r : Refusal) (done : IsWorked w most names (opened cells header old) mid (Err (stops.Work r))) → MayRefuse c r
        → (start.tells ≡ true → (given : Written) × ComesRefused c limit start.file (unread c mid) given r × Holds done.start mid given) → Leaves c limit start mid (Some r)
    left_by refusals.Memory done may came = inr (record {
      at_work = may;
      lacks = λ t. (came t).1.0;
      outputs = record {
        made = all_made (Err (stops.Work refusals.Memory)) done;
        empty = λ t out is. let p = came (sym (ap (λ (x : Meaning). x.tells) others) ∙ t) in holds_at (Err (stops.Work refusals.Memory)) done p.0 p.2 out is ∙ p.1.1 out;
      };
      report = λ t. let p = came t in holds_report (Err (stops.Work refusals.Memory)) done p.0 p.2 t ∙ p.1.1 outs.Report;
    })
    left_by (refusals.Cells NoPlace) done may came = hold_by (Err (stops.Work (refusals.Cells NoPlace))) done (λ t. let p = came t in (p.0, p.1.0, p.2))
    left_by (refusals.Cells AnnouncedForm) done may came = hold_by (Err (stops.Work (refusals.Cells AnnouncedForm))) done (λ t. let p = came t in (p.0, p.1.0, p.2))
    left_by (refusals.Cells Header) done may came = absurd may
    left_by refusals.Usage done may came = absurd may
    left_by (refusals.Settings reason) done may came = absurd may
    left_by refusals.ReadFault done may came = absurd may
    left_by refusals.WriteFault done may came = absurd may
    left_by (refusals.NotSync stream n) done may came = absurd may
    left_by (refusals.Limit n) done may came = absurd may

    -- a failure to close after complete work does not come with a refusal
    fault_by : Rose start.write_faults mid.write_faults ⊎ (Rose start.close_faults mid.close_faults × (start.tells ≡ true → EndsWithin w most file)) → IsWriteFault c limit start mid
    fault_by (inl rose) = inl rose
    fault_by (inr shut) = inr (shut.0, λ t. let e = shut.1 t in refusal_by None None (fits t) ((command.comes t).whole e.1.0 e.0 e.1.1).1 t)

    -- ---- by the outcome
    abbrev tag : Result (Unit {0}) RunError → ℕ
    tag (Ok u) = 0
    tag (Err ReadFault) = 1
    tag (Err WriteFault) = 2
    tag (Err Limit) = 3
    tag (Err (stops.Work r)) = 4

    worked_if : (result : Result (Unit {0}) RunError) → tag result ≢ 2 → RanBehind w most names (opened cells header old) mid result → IsWorked w most names (opened cells header old) mid result
    worked_if result not_written ran = elim ran [ inl p ↦ absurd (not_written (ap tag p.0)) | inr p ↦ p ]

    pub ended_of : (o : Result (Unit {0}) RunError) → HasEndCause (start.tells ≡ true → EndsWithin w most file) old mid o → HasReason w o → RanBehind w most names (opened cells header old) mid o → Ended c limit start mid (refusal_in most o)
    ended_of (Ok u) cause reason ran =
        let done = worked_if (Ok u) (λ e. omega (arith, e)) ran in
        ended_by None command.done cause tt (omega (arith, cause.0)) (omega (arith, cause.1))
        (λ t. let d = done.works (told t) in refusal_by None None (fits t) ((command.comes t).whole d.2.given d.1 d.2.ends).1 t) (order (Ok u) ran)
        (λ is. done.attached) (λ is t. (done.works (told t)).0)
        (hold_by (Ok u) done (λ t. let d = done.works (told t) in (d.2.given, ((command.comes t).whole d.2.given d.1 d.2.ends).0, d.2.holds)))
    ended_of (Err ReadFault) cause reason ran =
        ended_by (Some refusals.ReadFault) command.read_fault cause.0 (settled_is cause.2) cause.1 (later_writes cause.2) tt (order (Err ReadFault) ran) (λ is. absurd (no_refusal _ is)) (λ is t. absurd (no_refusal _ is))
        (let p = worked_if (Err ReadFault) (λ e. omega (arith, e)) ran in stopped_left (Err ReadFault) p (λ t. p.works (told t)))
    ended_of (Err WriteFault) cause reason ran =
        ended_by (Some refusals.WriteFault) command.write_fault (cause.0, fault_by cause.1) tt (later_reads cause.0) cause.2 tt (order (Err WriteFault) ran) (λ is. absurd (no_refusal _ is)) (λ is t. absurd (no_refusal _ is))
        (elim ran [ inl p ↦ unmade_left p.1 | inr p ↦ fronts_left (Err WriteFault) p (λ t. p.works (told t)) ])
    ended_of (Err Limit) cause reason ran =
        let done = worked_if (Err Limit) (λ e. omega (arith, e)) ran in
        ended_by (Some (refusals.Limit most)) command.limit_passed cause.0 (settled_is cause.1) (omega (arith, cause.0)) (later_writes cause.1)
        (λ t. let d = done.works (told t) in refusal_by (Some (refusals.Limit most)) None (fits t) ((command.comes t).past d.given d.past d.gives).1 t) (order (Err Limit) ran)
        (λ is. absurd (no_refusal _ is)) (λ is t. absurd (no_refusal _ is))
        (hold_by (Err Limit) done (λ t. let d = done.works (told t) in (d.given, ((command.comes t).past d.given d.past d.gives).0, d.holds)))
    ended_of (Err (stops.Work r)) cause reason ran =
        let done = worked_if (Err (stops.Work r)) (λ e. omega (arith, e)) ran in
        let its = command.its r reason in
        let came : start.tells ≡ true → (given : Written) × ComesRefused c limit start.file (unread c mid) given r × Holds done.start mid given =
        λ t. let d = done.works (told t) in (
          d.given,
          (command.comes t).refused (unread c mid) d.taken d.given r (d.are ∙ ap (λ (l : List ℕ). d.taken ++ l) (sym (unread_open done.attached))) d.within reason
              (subst (λ (l : List ℕ). w.Refuses d.taken l d.given r) (sym (unread_open done.attached)) d.refuses),
          d.holds,
        ) in
        ended_by (Some r) its.1 (caused_by r its.0 cause.0) (settled_by r its.0 (settled_is cause.1)) (omega (arith, cause.0)) (later_writes cause.1) (exact_by r its.0 (λ t. let p = came t in (p.0, p.1))) (order (Err (stops.Work r)) ran)
        (λ is. absurd (no_refusal _ is)) (λ is t. absurd (no_refusal _ is)) (left_by r done its.0 came)

-- the promise of a run on cells, after its settings
module _ (c : Command) (limit : ℕ) (name cells : List ℕ) (header : Option (List ℕ)) (names : Names) (w : Work) (most : ℕ) (start new : Meaning) (at : Source) (status : ℕ) (fresh : IsFresh start)
    (settings : SettingsDone c limit name start at) (command : CellCommand c limit name cells header names w most start) where
  abbrev accepted : Meaning
  accepted = record start { settings = at }

  -- at most as many bytes were taken as the command says
  few_taken : (m : Meaning) → m.cells.attached ≡ true → (m.cells.attached ≡ false) ⊎ ((m.cells.attached ≡ true) × (start.tells ≡ true → TakesHeader header (start.file cells) m.cells.left)) → start.tells ≡ true
      → (k : ℕ) × (k ≤ header_size header + (most + 1) * w.size) × (m.cells.left ≡ drop k (start.file cells))
  few_taken m is (inl shut) t = absurd (true≢false (sym is ∙ shut))
  few_taken m is (inr those) t = let r = those.1 t in (r.0, omega (arith, r.1), r.2)

  unopened_run : RefusesCells cells header accepted new status → Run c limit start new status
  unopened_run runs = subst (λ (n : ℕ). Run c limit start new n) (sym runs.status_is) (closing runs.mid runs.refusal runs.opens (none_of runs.refusal runs.opens) runs.tells)
    where
      none_of : (r : Refusal) → Opens cells header accepted runs.mid (Err r) → IsUnopened cells header accepted runs.mid
      none_of refusals.ReadFault o = o.0
      none_of (refusals.Cells Header) o = o.0
      none_of (refusals.Cells NoPlace) o = absurd o
      none_of (refusals.Cells AnnouncedForm) o = absurd o
      none_of refusals.Usage o = absurd o
      none_of (refusals.Settings reason) o = absurd o
      none_of refusals.WriteFault o = absurd o
      none_of (refusals.NotSync stream n) o = absurd o
      none_of refusals.Memory o = absurd o
      none_of (refusals.Limit n) o = absurd o

      closing : (m : Meaning) (r : Refusal) → Opens cells header accepted m (Err r) → IsUnopened cells header accepted m → WritesText (refusal_text r) m new → Run c limit start new (refusal_status r)
      closing m r opens none tells =
          let same : m.report_faults ≡ start.report_faults = ap (λ (x : Meaning). x.report_faults) none.others in
          run_refused c limit start m new r
          (unopened_ended c limit name cells header names w most start m at fresh settings command (cells_ports accepted m none.others) none.asked (λ port. inl (ap (λ (x : Sink). x.asked) (cells_sink accepted m none.others port)))
          (λ t is. few_taken m is none.taken t) (omega (arith, same)) r opens) tells

  -- opening the cells changes none of the counts
  same_cause : (whole : Type 0) (m : Meaning) (o : Result (Unit {0}) RunError) → HasEndCause whole (opened cells header accepted) m o → HasEndCause whole accepted m o
  same_cause whole m (Ok u) h = h
  same_cause whole m (Err ReadFault) h = (h.0, h.1, record { settled = h.2.settled; writes = h.2.writes })
  same_cause whole m (Err WriteFault) h = h
  same_cause whole m (Err Limit) h = (h.0, record { settled = h.1.settled; writes = h.1.writes })
  same_cause whole m (Err (stops.Work r)) h = (h.0, record { settled = h.1.settled; writes = h.1.writes })

  opened_run : (start.tells ≡ true → header_refusal header (start.file cells) ≡ None) → RunsBehind w most names (opened cells header accepted) new status → Run c limit start new status
  opened_run fits runs =
      let e = ended_of c limit name cells header names w most start runs.mid at fresh settings command runs.others runs.cells_asked (λ port. asked port (runs.asks port))
      (λ t is. let r = runs.taken t in (header_size header + r.0, omega (arith, r.1), r.2 ∙ behind_more header (start.file cells) r.0)) runs.later_report fits runs.taken
      runs.outcome (same_cause (start.tells ≡ true → EndsWithin w most (behind_header header (start.file cells))) runs.mid runs.outcome runs.cause) runs.reason runs.ran in
      subst (λ (n : ℕ). Run c limit start new n) (sym runs.status_is) (closing runs.mid runs.outcome e runs.tells)
    where
      asked : (port : OutPort) → ((sink_at port runs.mid).asked ≡ (sink_at port (opened cells header accepted)).asked) ⊎ ((sink_at port runs.mid).asked ≡ names port)
          → ((sink_at port runs.mid).asked ≡ (sink_at port accepted).asked) ⊎ ((sink_at port runs.mid).asked ≡ names port)
      asked port (inl same) = inl (same ∙ ap (λ (x : Sink). x.asked) (opened_sink cells header accepted port))
      asked port (inr is) = inr is

      closing : (m : Meaning) (o : Result (Unit {0}) RunError) → Ended c limit start m (refusal_in most o) → Tells most m new o → Run c limit start new (outcome_status most o)
      closing m (Ok u) e tells = run_done c limit start new (subst (λ (x : Meaning). Ended c limit start x None) (sym tells) e)
      closing m (Err stop) e tells = run_refused c limit start m new (stop_refusal most stop) e tells

  pub run_of : RunsCells w most cells header names accepted new status → Run c limit start new status
  run_of runs = elim runs [ inl r ↦ unopened_run r | inr r ↦ opened_run r.0 r.1 ]
