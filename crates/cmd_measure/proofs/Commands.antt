-- `measure` is a command on cells: its output is that of its work.
use Rattle.std.proofs.Common.{◌≡◌, ◌⊎◌, inl, inr, true, ℕ, ◌<◌, ◌≤◌, Bool, List, [], ◌++◌, take, drop, Option, Some, None, refl, ◌∙◌, sym, ap, subst, arith, append_assoc, if◌then◌else◌}
use Rattle.std.specs.Prelude.{option_and_then}
use Rattle.std.proofs.lemmas.Bool.{cases_lt, le-ltb, lt-ltb, true≢false}
use Rattle.std.proofs.lemmas.List.{append-nil, append_cancel_right, drop_all, length-take, take-append-drop}
use Rattle.station_core.specs.Meaning.{Meaning}
use Rattle.station_core.specs.declared.ports.InPort.TheVariants as ins
use Rattle.station_core.specs.declared.ports.OutPort.{OutPort}
use Rattle.station_core.specs.declared.ports.OutPort.TheVariants as outs
use Rattle.mode_set.specs.declared.settings.Settings.{Settings as TheSettings}
use Rattle.frame_build.specs.CellFile.{header}
use Rattle.reception.specs.Cells.{symbols}
use Rattle.reception.specs.Laws.{SameSymbols}
use Rattle.reception.specs.Moments.{SomeFinal, SomeLive}
use Rattle.measurement.specs.Laws.{LiveBeginsFinal, LiveBeginsLive, OneSums, SumsStay}
use Rattle.measurement.specs.Lines.{MeasureFinal, MeasureLive}
use Rattle.law_measurement.specs.Own.{FramesAreExact, FramesAreNear}
use Rattle.law_measurement.specs.Remade.{ErrorIsFromSent, RemadeAreSent}
use Rattle.law_measurement.specs.Totals.{ClosingIsReceived, LinesAddUp}
use Rattle.cmd_base.specs.declared.refusal.Refusal.{Refusal}
use Rattle.cmd_base.specs.declared.refusal.Refusal.TheVariants.{Limit}
use Rattle.cmd_base.specs.Command.{Command, Files, Unread}
use Rattle.cmd_base.specs.StatedSettings.{settings_of}
use Rattle.cmd_cells.specs.Work.{Written}
use Rattle.cmd_cells.specs.Cells.{GivenUpTo}
use Rattle.cmd_cells.specs.Commands.{CellCommand, Come, ComeSoFar, ComesTo, Continues}
use Rattle.cmd_receive.specs.ReceiveCommand.{header_by, most_cells}
use Rattle.cmd_receive.specs.Received.{cells_in, IsSoFar, reception_refusal, within_limit}
use Rattle.cmd_receive.proofs.Commands.{behind, symbols_none}
use Rattle.cmd_receive.proofs.Parts.{some_bytes}
use Rattle.cmd_measure.specs.MeasureCommand.{measure_command, no_names}
use Rattle.cmd_measure.specs.MeasureLaws.{IsOneReport, MeasureLaws}
use Rattle.cmd_measure.specs.Measured.{LinesCome, LinesSoFar}
use Rattle.cmd_measure.specs.Working.{Prints, measuring_work, printed}
use Rattle.cmd_measure.proofs.Existing.{some_last, some_lines}
use Rattle.cmd_measure.proofs.Whole.{no_lines_yet, one_final, one_live, whole_live, within_by}

pub record Laws : Type 0 where
  pub same : SameSymbols
  pub some_live : SomeLive
  pub some_final : SomeFinal
  pub stay : SumsStay
  pub once : OneSums
  pub live : LiveBeginsLive
  pub last : LiveBeginsFinal
  pub sums : LinesAddUp
  pub closing : ClosingIsReceived
  pub sent : RemadeAreSent
  pub error : ErrorIsFromSent
  pub own : FramesAreExact
  pub noise : FramesAreNear

-- ---- its own laws

module _ (laws : Laws) (s : TheSettings) (file : List ℕ) where
  abbrev all_bytes : List ℕ
  all_bytes = cells_in file

  lines_same : (a b : List ℕ) → LinesCome s all_bytes a → LinesCome s all_bytes b → b ≡ a
  lines_same a b (inl x) (inl y) = one_final laws.once laws.closing s all_bytes a b x.final y.final
  lines_same a b (inl x) (inr y) = absurd (omega (arith, x.within, y.past))
  lines_same a b (inr x) (inl y) = absurd (omega (arith, y.within, x.past))
  lines_same a b (inr x) (inr y) = one_live laws.once s (within_limit s all_bytes) a b x.live y.live

  some_come : (s.max_symbols < symbols s all_bytes) ⊎ (symbols s all_bytes ≤ s.max_symbols) → (lines : List ℕ) × LinesCome s all_bytes lines
  some_come (inl past) = let l = some_lines laws.some_live laws.some_final s (within_limit s all_bytes) in (l.0, inr (record { past = past; live = l.1 }))
  some_come (inr within) = let l = some_last laws.some_live laws.some_final s all_bytes in (l.0, inl (record { within = within; final = l.1 }))

  so_far_same : (left a b : List ℕ) → IsSoFar MeasureLive s file left a → IsSoFar MeasureLive s file left b → b ≡ a
  so_far_same left a b x y =
      let taken : y.taken ≡ x.taken = append_cancel_right y.taken x.taken left (sym y.are ∙ x.are) in
      one_live laws.once s (cells_in x.taken) a b x.live (subst (λ (l : List ℕ). MeasureLive s (cells_in l) b) taken y.live)

  one_report : IsOneReport s file
  one_report = record {
    lines = let l = some_come (cases_lt s.max_symbols (symbols s all_bytes)) in (l.0, l.1, (λ other is. lines_same l.0 other l.1 is));
    lines_so_far = λ left one other x y. so_far_same left one other x y;
  }

pub own_laws : Laws → (stated : Option TheSettings) (file : List ℕ) → MeasureLaws stated file
own_laws laws stated file = record {
  one = λ s is. one_report laws s file;
  live = laws.live;
  last = laws.last;
  sums = laws.sums;
  closing = laws.closing;
  sent = laws.sent;
  error = laws.error;
  own = laws.own;
  noise = laws.noise;
}

-- ---- if nothing past the header is taken of the cells, there are no lines

none_behind : (file : List ℕ) (k : ℕ) → k ≤ 8 → cells_in (take k file) ≡ []
none_behind file k few = drop_all 8 (take k file) (let some = length-take k file in omega (arith, some, few))

pub no_lines : Laws → (stated : Option TheSettings) (file left : List ℕ) (k : ℕ) → k ≤ 8 → left ≡ drop k file → LinesSoFar stated file left []
no_lines laws None file left k few is = refl
no_lines laws (Some s) file left k few is = record {
  taken = take k file;
  are = sym (take-append-drop k file) ∙ ap (λ (l : List ℕ). take k file ++ l) (sym is);
  within = let none : symbols s (cells_in (take k file)) ≡ 0 = ap (symbols s) (none_behind file k few) ∙ symbols_none s in omega (arith, none);
  live = subst (λ (l : List ℕ). MeasureLive s l []) (sym (none_behind file k few)) (no_lines_yet s);
}

module _ (laws : Laws) (limit : ℕ) (settings cells : List ℕ) (file : Files) (s : TheSettings) (stated : settings_of (file settings) ≡ Some s) where
  abbrev c : Command
  c = measure_command settings cells

  abbrev bytes : List ℕ
  bytes = cells_in (file cells)

  come : (lines : List ℕ) (given : Written) → ((port : OutPort) → given port ≡ printed lines port) → LinesCome s bytes lines → Come c limit file given
  come lines given is prints = record {
    outputs = λ port output. absurd (true≢false (sym output));
    report = (s, stated, subst (LinesCome s bytes) (sym (is outs.Report)) prints);
  }

  refusal_is : (o : Option Refusal) → reception_refusal s bytes ≡ o → c.work_refusal limit file ≡ o
  refusal_is o is = ap (λ (x : Option TheSettings). option_and_then (λ y. reception_refusal y bytes) x) stated ∙ is

  -- ---- the output of a prefix is a prefix of the output

  continued : (lines all_lines : List ℕ) (given : Written) → ((port : OutPort) → given port ≡ printed lines port) → (more : List ℕ) × (all_lines ≡ lines ++ more) → LinesCome s bytes all_lines → Continues c limit file given
  continued lines all_lines given is more prints = record {
    all = printed all_lines;
    come = come all_lines (printed all_lines) (λ port. refl) prints;
    begins = λ port. let m = more_at port in (m.0, m.1 ∙ ap (λ (l : List ℕ). l ++ m.0) (sym (is port)));
  }
    where
      more_at : (port : OutPort) → (others : List ℕ) × (printed all_lines port ≡ printed lines port ++ others)
      more_at outs.Cells = ([], refl)
      more_at outs.Hp = ([], refl)
      more_at outs.Lp = ([], refl)
      more_at outs.Bytes = ([], refl)
      more_at outs.Report = more

  live_continues : (taken left lines : List ℕ) (given : Written) → bytes ≡ taken ++ left → symbols s taken ≤ s.max_symbols → MeasureLive s taken lines → ((port : OutPort) → given port ≡ printed lines port)
      → (s.max_symbols < symbols s bytes) ⊎ (symbols s bytes ≤ s.max_symbols) → Continues c limit file given
  live_continues taken left lines given are few live is (inl past) =
      let w = within_by s taken left few in
      let whole = whole_live laws.some_live laws.some_final laws.same laws.stay laws.once s w.whole w.after lines w.ends_none (subst (λ (l : List ℕ). MeasureLive s l lines) w.are live) in
      let limited : within_limit s bytes ≡ w.whole ++ w.others = ap (within_limit s) are ∙ w.limited in
      let all = some_lines laws.some_live laws.some_final s (within_limit s bytes) in
      let more = laws.live s w.whole w.others lines all.0 whole (subst (λ (l : List ℕ). MeasureLive s l all.0) limited all.1) in
      continued lines all.0 given is more (inr (record { past = past; live = all.1 }))
  live_continues taken left lines given are few live is (inr within) =
      let all = some_last laws.some_live laws.some_final s bytes in
      let more = laws.last s taken left lines all.0 live (subst (λ (l : List ℕ). MeasureFinal s l all.0) are all.1) in
      continued lines all.0 given is more (inl (record { within = within; final = all.1 }))

  final_continues : (taken lines : List ℕ) (given : Written) → bytes ≡ taken → symbols s taken ≤ s.max_symbols → MeasureFinal s taken lines → ((port : OutPort) → given port ≡ printed lines port) → Continues c limit file given
  final_continues taken lines given same few final is =
      continued lines lines given is ([], sym (append-nil lines)) (inl (record {
        within = subst (λ (l : List ℕ). symbols s l ≤ s.max_symbols) (sym same) few;
        final = subst (λ (l : List ℕ). MeasureFinal s l lines) (sym same) final;
      }))

  begun : (given : Written) → GivenUpTo (measuring_work s) s.max_symbols bytes given → Continues c limit file given
  begun given up = elim up.gives [
    | inl gives ↦ live_continues up.taken up.rest gives.0 given up.are up.within gives.1 gives.2 (cases_lt s.max_symbols (symbols s bytes))
    | inr all ↦ final_continues up.taken all.1.0 given (up.are ∙ ap (λ (l : List ℕ). up.taken ++ l) all.0 ∙ append-nil up.taken) up.within all.1.1 all.1.2
  ]

  -- ---- up to a failed read

  so_far : (unread : Unread) (taken : List ℕ) (given : Written) → bytes ≡ taken ++ unread ins.Cells → symbols s taken ≤ s.max_symbols → Prints (MeasureLive s taken) given → ComeSoFar c limit file unread given
  so_far unread taken given are few gives =
      let all : List ℕ = take 8 (file cells) ++ taken in
      let same : cells_in all ≡ taken = behind 8 (file cells) taken (unread ins.Cells) are in
      let is : IsSoFar MeasureLive s (file cells) (unread ins.Cells) gives.0 = record {
        taken = all;
        are = sym (take-append-drop 8 (file cells)) ∙ ap (λ (l : List ℕ). take 8 (file cells) ++ l) are ∙ sym (append_assoc (take 8 (file cells)) taken (unread ins.Cells));
        within = subst (λ (l : List ℕ). symbols s l ≤ s.max_symbols) (sym same) few;
        live = subst (λ (l : List ℕ). MeasureLive s l gives.0) (sym same) gives.1;
      } in
      record {
        outputs = λ port output. absurd (true≢false (sym output));
        report = subst (λ (o : Option TheSettings). LinesSoFar o (file cells) (unread ins.Cells) (given outs.Report)) (sym stated)
            (subst (λ (l : List ℕ). IsSoFar MeasureLive s (file cells) (unread ins.Cells) l) (sym (gives.2 outs.Report)) is);
      }

  pub comes : ComesTo c limit file (measuring_work s) s.max_symbols bytes
  comes = record {
    whole = λ given few ends. (
      come ends.0 given ends.2 (inl (record { within = few; final = ends.1 })),
      refusal_is None (ap (λ (b : Bool). if b then Some (Limit s.max_symbols) else None) (le-ltb s.max_symbols (symbols s bytes) few)),
    );
    past = λ given more gives. (
      come gives.0 given gives.2 (inr (record { past = more; live = gives.1 })),
      refusal_is (Some (Limit s.max_symbols)) (ap (λ (b : Bool). if b then Some (Limit s.max_symbols) else None) (lt-ltb s.max_symbols (symbols s bytes) more)),
    );
    refused = λ unread taken given r are within reason refuses. absurd reason;
    so_far = so_far;
    begun = begun;
    first = (printed [], ([], no_lines_yet s, (λ port. refl)));
  }

pub command_of : (laws : Laws) (limit : ℕ) (settings cells : List ℕ) (s : TheSettings) (start : Meaning) → (start.tells ≡ true → settings_of (start.file settings) ≡ Some s)
    → CellCommand (measure_command settings cells) limit settings cells (Some (header s.mode)) no_names (measuring_work s) s.max_symbols start
command_of laws limit settings cells s start stated = record {
  reads = elim [ ins.Settings ↦ refl | ins.Hp ↦ refl | ins.Lp ↦ refl | ins.Cells ↦ refl ];
  writes = λ port. refl;
  header_is = λ t. ap header_by (stated t);
  no_report = refl;
  some = some_bytes s;
  done = refl;
  read_fault = refl;
  write_fault = refl;
  unheaded = λ is. refl;
  limit_passed = refl;
  most_taken = λ t. let e = ap most_cells (stated t) in omega (arith, e);
  comes = λ t. comes laws limit settings cells start.file s (stated t);
  unread = λ t unread taken. no_lines laws (settings_of (start.file settings)) (start.file cells) (unread ins.Cells) taken.0 taken.1 taken.2;
  its = λ r reason. absurd reason;
  own = λ file. own_laws laws (settings_of (file settings)) (file cells);
}
