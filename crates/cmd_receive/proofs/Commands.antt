-- The command of a kind is a command on cells: its output is that of its work.
use Rattle.std.proofs.Common.{◌≡◌, inl, inr, true, false, ℕ, zero, suc, ◌≤◌, Bool, List, [], ◌∷◌, ◌++◌, take, drop, Option, Some, None, refl, ◌∙◌, sym, ap, subst, arith, append_assoc, if◌then◌else◌}
use Rattle.std.proofs.lemmas.List.{drop_all, length-take, take-append-drop}
use Rattle.std.specs.Prelude.{is_some, flat_map, option_and_then}
use Rattle.std.proofs.lemmas.Bool.{lt-ltb, le-ltb, true≢false}
use Rattle.std.proofs.Math.Nat.{div-eq_of_lt}
use Rattle.station_core.specs.Meaning.{Meaning}
use Rattle.station_core.specs.declared.ports.InPort.TheVariants as ins
use Rattle.station_core.specs.declared.ports.OutPort.{OutPort}
use Rattle.station_core.specs.declared.ports.OutPort.TheVariants as outs
use Rattle.mode_set.specs.declared.modes.Stream.{Stream}
use Rattle.mode_set.specs.declared.modes.Stream.TheVariants.{Hp, Lp}
use Rattle.mode_set.specs.declared.settings.Settings.{Settings as TheSettings}
use Rattle.rx_report.specs.Text.{event_line}
use Rattle.rx_report.specs.declared.counts.Event.{Event}
use Rattle.reception.specs.Cells.{symbol_length, symbols}
use Rattle.frame_build.specs.CellFile.{header}
use Rattle.reception.specs.Lines.{events}
use Rattle.reception.specs.Laws.{NoEvents}
use Rattle.cmd_base.specs.declared.refusal.Refusal.{Refusal}
use Rattle.cmd_base.specs.declared.refusal.Refusal.TheVariants.{Limit}
use Rattle.cmd_base.specs.Command.{Command, Files, IsOutput}
use Rattle.cmd_base.specs.StatedSettings.{settings_of}
use Rattle.cmd_cells.specs.Work.{Written}
use Rattle.cmd_cells.specs.Outputs.{stream_names}
use Rattle.cmd_cells.specs.Cells.{GivenUpTo}
use Rattle.cmd_cells.specs.Commands.{CellCommand, Come, ComesTo, Continues}
use Rattle.cmd_receive.specs.Received.{cells_in, IsAll, IsCutOff, IsSoFar, packets_at, reception_refusal}
use Rattle.cmd_receive.specs.ReceiveCommand.{header_by, most_cells}
use Rattle.cmd_receive.specs.Kinds.{Kind, lines_of, live_of, work_of, writes_at, written_at}
use Rattle.cmd_receive.proofs.OfKinds.{IsReceived, KindLaws, LinesCome, LinesSoFar, command}
use Rattle.cmd_receive.proofs.Parts.{some_bytes}
use Rattle.cmd_receive.proofs.Begun.{ReceivedUpTo, begun, lines_up_to}
use Rattle.cmd_receive.proofs.Begun as begun

-- no bytes of the cells give no output, which has no lines
pub symbols_none : (s : TheSettings) → symbols s [] ≡ 0
symbols_none s = div-eq_of_lt {n = 0} {m = symbol_length s} (some_bytes s)

pub lines_none : NoEvents → (s : TheSettings) (reports : Stream → List ℕ) → flat_map event_line (events s (symbols s []) reports) ≡ []
lines_none no_events s reports =
    ap (λ (n : ℕ). flat_map event_line (events s n reports)) (symbols_none s) ∙ ap (λ (es : List Event). flat_map event_line es) (no_events s reports)

-- and nothing is written for them
pub nothing_written : NoEvents → (packets reports : Stream → List ℕ) → ((σ : Stream) → packets σ ≡ []) → (s : TheSettings) (two : Bool) (port : OutPort)
    → written_at two packets (flat_map event_line (events s (symbols s []) reports)) port ≡ []
nothing_written no_events packets reports none s two outs.Cells = refl
nothing_written no_events packets reports none s two outs.Hp = none Hp
nothing_written no_events packets reports none s true outs.Lp = none Lp
nothing_written no_events packets reports none s false outs.Lp = refl
nothing_written no_events packets reports none s two outs.Bytes = refl
nothing_written no_events packets reports none s two outs.Report = lines_none no_events s reports

-- within the header no byte follows it
none_behind : (file : List ℕ) (k : ℕ) → k ≤ 8 → cells_in (take k file) ≡ []
none_behind file k few = drop_all 8 (take k file) (let some = length-take k file in omega (arith, some, few))

abbrev none_taken : {k : Kind} → (laws : KindLaws k) (s : TheSettings) (file left : List ℕ) (n : ℕ) → n ≤ 8 → left ≡ drop n file → IsSoFar k.Live s file left laws.none
none_taken {k} laws s file left n few is = record {
  taken = take n file;
  are = sym (take-append-drop n file) ∙ ap (λ (l : List ℕ). take n file ++ l) (sym is);
  within = let none : symbols s (cells_in (take n file)) ≡ 0 = ap (symbols s) (none_behind file n few) ∙ symbols_none s in omega (arith, none);
  live = subst (λ (l : List ℕ). k.Live s l laws.none) (sym (none_behind file n few)) (laws.none_live s);
}

-- so if nothing past the header is taken of the cells, the report has no lines
pub no_lines : {k : Kind} → KindLaws k → (stated : Option TheSettings) (file left : List ℕ) (n : ℕ) → n ≤ 8 → left ≡ drop n file → LinesSoFar k stated file left []
no_lines laws None file left n few is = refl
no_lines {k} laws (Some s) file left n few is =
    (laws.none, none_taken laws s file left n few is, sym (ap (λ (l : List ℕ). lines_of k s l laws.none) (none_behind file n few) ∙ lines_none laws.no_events s (k.reports laws.none)))

-- the header, and the bytes taken after it
pub behind : (n : ℕ) (file taken left : List ℕ) → drop n file ≡ taken ++ left → drop n (take n file ++ taken) ≡ taken
behind zero file taken left e = refl
behind (suc n) [] [] left e = refl
behind (suc n) [] (x ∷ taken) left e = cc
behind (suc n) (y ∷ file) taken left e = behind n file taken left e

module _ {k : Kind} (laws : KindLaws k) (Own : Option TheSettings → List ℕ → Type 0) (limit : ℕ) (name cells hp : List ℕ) (lp : Option (List ℕ)) (file : Files) (s : TheSettings) (stated : settings_of (file name) ≡ Some s) where
  abbrev c : Command
  c = command k Own name cells hp lp

  abbrev two : Bool
  two = is_some lp

  abbrev bytes : List ℕ
  bytes = cells_in (file cells)

  -- the bytes written at an output are the packets of its stream
  at_output : (r : Stream → List ℕ) (lines : List ℕ) (port : OutPort) → IsOutput c port → written_at two r lines port ≡ packets_at port r
  at_output r lines outs.Cells is = absurd (true≢false (sym is))
  at_output r lines outs.Hp is = refl
  at_output r lines outs.Lp is = ap (λ (b : Bool). if b then r Lp else []) is
  at_output r lines outs.Bytes is = absurd (true≢false (sym is))
  at_output r lines outs.Report is = absurd (true≢false (sym is))

  come : (r : k.Received) (lines : List ℕ) (given : Written) → ((port : OutPort) → given port ≡ written_at two (k.packets r) lines port) → IsReceived k s bytes r → LinesCome k s bytes lines → Come c limit file given
  come r lines given is received prints = record {
    outputs = λ port output. (s, stated, (r, received, is port ∙ at_output (k.packets r) lines port output));
    report = (s, stated, subst (LinesCome k s bytes) (sym (is outs.Report)) prints);
  }

  refusal_is : (o : Option Refusal) → reception_refusal s bytes ≡ o → c.work_refusal limit file ≡ o
  refusal_is o is = ap (λ (x : Option TheSettings). option_and_then (λ y. reception_refusal y bytes) x) stated ∙ is

  lines_so_far : (left lines : List ℕ) → LinesSoFar k (Some s) (file cells) left lines → LinesSoFar k (settings_of (file name)) (file cells) left lines
  lines_so_far left lines is = subst (λ (o : Option TheSettings). LinesSoFar k o (file cells) left lines) (sym stated) is

  up_to : (given : Written) → GivenUpTo (work_of k s two) s.max_symbols bytes given → (r : k.Received) × (up : ReceivedUpTo k s bytes r) × ((port : OutPort) → given port ≡ written_at two (k.packets r) (lines_up_to k s up.taken up.rest r up.gives) port)
  up_to given up = elim up.gives [
    | inl g ↦ (g.0, record { taken = up.taken; rest = up.rest; are = up.are; within = up.within; gives = inl g.1 }, g.2)
    | inr g ↦ (g.1.0, record { taken = up.taken; rest = up.rest; are = up.are; within = up.within; gives = inr (g.0, g.1.1) }, g.1.2)
  ]

  continues : (given : Written) → GivenUpTo (work_of k s two) s.max_symbols bytes given → Continues c limit file given
  continues given up =
      let u = up_to given up in
      let lines : List ℕ = lines_up_to k s u.1.taken u.1.rest u.0 u.1.gives in
      let b = begun laws s bytes u.0 u.1 in record {
        all = written_at two (k.packets b.all) b.printed;
        come = come b.all b.printed (written_at two (k.packets b.all) b.printed) (λ port. refl) b.received b.prints;
        begins = λ port. moved port lines u.0 u.2 b;
      }
    where
      rest_at : (q r : Stream → List ℕ) (more lines : List ℕ) → ((rest : List ℕ) × (q Hp ≡ r Hp ++ rest)) → ((rest : List ℕ) × (q Lp ≡ r Lp ++ rest)) → ((rest : List ℕ) × (more ≡ lines ++ rest))
          → (port : OutPort) → (rest : List ℕ) × (written_at two q more port ≡ written_at two r lines port ++ rest)
      rest_at q r more lines hp lp report outs.Cells = ([], refl)
      rest_at q r more lines hp lp report outs.Hp = hp
      rest_at q r more lines hp lp report outs.Lp = if_two two
        where
          if_two : (b : Bool) → (rest : List ℕ) × ((if b then q Lp else []) ≡ (if b then r Lp else []) ++ rest)
          if_two true = lp
          if_two false = ([], refl)
      rest_at q r more lines hp lp report outs.Bytes = ([], refl)
      rest_at q r more lines hp lp report outs.Report = report

      moved : (port : OutPort) (lines : List ℕ) (r : k.Received) → ((port : OutPort) → given port ≡ written_at two (k.packets r) lines port) → (b : begun.Continues k s bytes r lines) → (rest : List ℕ) × (written_at two (k.packets b.all) b.printed port ≡ given port ++ rest)
      moved port lines r is b =
          let f = rest_at (k.packets b.all) (k.packets r) b.printed lines (b.packets Hp) (b.packets Lp) b.lines_are port in
          (f.0, f.1 ∙ ap (λ (l : List ℕ). l ++ f.0) (sym (is port)))

  comes : ComesTo c limit file (work_of k s two) s.max_symbols bytes
  comes = record {
    whole = λ given few ends.
        let all : IsAll k.Final s bytes ends.0 = record { within = few; final = ends.1 } in (
          come ends.0 _ given ends.2 (inl all) (ends.0, inl (all, refl)),
          refusal_is None (ap (λ (b : Bool). if b then Some (Limit s.max_symbols) else None) (le-ltb s.max_symbols (symbols s bytes) few)),
        );
    past = λ given more gives.
        let cut : IsCutOff k.Live s bytes gives.0 = record { past = more; live = gives.1 } in (
          come gives.0 _ given gives.2 (inr cut) (gives.0, inr (cut, refl)),
          refusal_is (Some (Limit s.max_symbols)) (ap (λ (b : Bool). if b then Some (Limit s.max_symbols) else None) (lt-ltb s.max_symbols (symbols s bytes) more)),
        );
    refused = λ unread taken given r are within reason refuses. absurd reason;
    so_far = λ unread taken given are within gives.
        let same : cells_in (take 8 (file cells) ++ taken) ≡ taken = behind 8 (file cells) taken (unread ins.Cells) are in
        let so_far : IsSoFar k.Live s (file cells) (unread ins.Cells) gives.0 = record {
          taken = take 8 (file cells) ++ taken;
          are = sym (take-append-drop 8 (file cells)) ∙ ap (λ (l : List ℕ). take 8 (file cells) ++ l) are ∙ sym (append_assoc (take 8 (file cells)) taken (unread ins.Cells));
          within = subst (λ (l : List ℕ). symbols s l ≤ s.max_symbols) (sym same) within;
          live = subst (λ (l : List ℕ). k.Live s l gives.0) (sym same) gives.1;
        } in
        record {
          outputs = λ port output. (s, stated, (gives.0, so_far, gives.2 port ∙ at_output (k.packets gives.0) (lines_of k s taken gives.0) port output));
          report = lines_so_far (unread ins.Cells) (given outs.Report) (gives.0, so_far, gives.2 outs.Report ∙ ap (λ (l : List ℕ). lines_of k s l gives.0) (sym same));
        };
    begun = continues;
    first = (live_of k s two [] laws.none, (laws.none, laws.none_live s, (λ port. refl)));
  }

pub command_of : {k : Kind} (laws : KindLaws k) (Own : Option TheSettings → List ℕ → Type 0) → ((stated : Option TheSettings) (file : List ℕ) → Own stated file) → (limit : ℕ) (name cells hp : List ℕ) (lp : Option (List ℕ)) (s : TheSettings) (start : Meaning) → (start.tells ≡ true → settings_of (start.file name) ≡ Some s)
    → CellCommand (command k Own name cells hp lp) limit name cells (Some (header s.mode)) (stream_names hp lp) (work_of k s (is_some lp)) s.max_symbols start
command_of {k} laws Own own limit name cells hp lp s start stated = record {
  reads = elim [ ins.Settings ↦ refl | ins.Hp ↦ refl | ins.Lp ↦ refl | ins.Cells ↦ refl ];
  writes = elim [ outs.Cells ↦ refl | outs.Hp ↦ refl | outs.Lp ↦ refl | outs.Bytes ↦ refl | outs.Report ↦ refl ];
  header_is = λ t. ap header_by (stated t);
  no_report = refl;
  some = some_bytes s;
  done = refl;
  read_fault = refl;
  write_fault = refl;
  unheaded = λ is. refl;
  limit_passed = refl;
  most_taken = λ t. let e = ap most_cells (stated t) in omega (arith, e);
  comes = λ t. comes laws Own limit name cells hp lp start.file s (stated t);
  unread = λ t unread taken. no_lines laws (settings_of (start.file name)) (start.file cells) (unread ins.Cells) taken.0 taken.1 taken.2;
  its = λ r reason. absurd reason;
  own = λ file. own (settings_of (file name)) (file cells);
}

-- the work writes where the files of the streams are created
pub outputs_are : (hp : List ℕ) (lp : Option (List ℕ)) (both : Bool) → both ≡ is_some lp → (port : OutPort) → writes_at both port ≡ is_some (stream_names hp lp port)
outputs_are hp lp both same outs.Cells = refl
outputs_are hp lp both same outs.Hp = refl
outputs_are hp lp both same outs.Lp = same
outputs_are hp lp both same outs.Bytes = refl
outputs_are hp lp both same outs.Report = refl
