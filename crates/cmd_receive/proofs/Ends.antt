-- The work writes the output of the receiver: with each piece, and after the last one the closing lines.
use Rattle.std.proofs.Common.{◌≡◌, ℕ, Bool, true, false, List, [], ◌++◌, take, refl, ◌∙◌, sym, ap, subst, arith, Result, Ok, Err, if◌then◌else◌}
use Rattle.std.specs.Prelude.{flat_map}
use Rattle.std.proofs.lemmas.List.{append-nil, take_all}
use Rattle.std.proofs.lemmas.List.Concat.{flat_map-append}
use Rattle.station_core.specs.Meaning.{Meaning}
use Rattle.station_core.specs.declared.ports.OutPort.{OutPort}
use Rattle.station_core.specs.declared.ports.OutPort.TheVariants as outs
use Rattle.mode_set.specs.declared.modes.Stream.{Stream}
use Rattle.mode_set.specs.declared.modes.Stream.TheVariants.{Hp, Lp}
use Rattle.mode_set.specs.declared.settings.Settings.{Settings}
use Rattle.rx_report.specs.Text.{event_line}
use Rattle.rx_report.specs.declared.counts.Event.{Event}
use Rattle.reception.specs.Cells.{symbols}
use Rattle.reception.specs.Lines.{events}
use Rattle.reception.specs.Feeds.{Output, packets_of}
use Rattle.cmd_cells.specs.declared.run_error.RunError.{RunError}
use Rattle.cmd_cells.specs.declared.run_error.RunError.TheVariants.{WriteFault}
use Rattle.cmd_cells.specs.Outputs.{IsWriting}
use Rattle.cmd_cells.specs.Work.{Finishes, Follows, Holds, HoldsFront, Written}
use Rattle.cmd_cells.specs.Work.{Takes as TakesPiece}
use Rattle.cmd_cells.proofs.Fronts.{all_of, none_of}
use Rattle.cmd_receive.specs.Writing.{Appends, IsPartlyWritten, IsWritten, ReportOnly, WritesOnly, WritesOut, event_text, lp_bytes}
use Rattle.cmd_receive.specs.Kinds.{Kind, TakesAs, final_of, lines_of, live_of, work_of, written_at}

-- the bytes written for an output, with lines at Report
abbrev given_at : Bool → Output → List ℕ → Written
given_at two out lines outs.Cells = []
given_at two out lines outs.Hp = out.hp
given_at two out lines outs.Lp = lp_bytes two out.lp
given_at two out lines outs.Bytes = []
given_at two out lines outs.Report = lines

-- they follow those written for the reception before
follows_by : (two : Bool) (before : Written) (r after : Stream → List ℕ) (out : Output) (lines more all : List ℕ) → ((port : OutPort) → before port ≡ written_at two r lines port)
    → ((σ : Stream) → after σ ≡ r σ ++ packets_of out σ) → all ≡ lines ++ more → Follows before (given_at two out more) (written_at two after all)
follows_by two before r after out lines more all is packets report port = go port ∙ ap (λ (l : List ℕ). l ++ given_at two out more port) (sym (is port))
  where
    lp_more : (b : Bool) → (if b then after Lp else []) ≡ (if b then r Lp else []) ++ lp_bytes b out.lp
    lp_more true = packets Lp
    lp_more false = refl

    go : (port : OutPort) → written_at two after all port ≡ written_at two r lines port ++ given_at two out more port
    go outs.Cells = refl
    go outs.Hp = packets Hp
    go outs.Lp = lp_more two
    go outs.Bytes = refl
    go outs.Report = report

-- the bytes written, or prefixes of them, at each port
module _ (two : Bool) (out : Output) (m m' : Meaning) (only : WritesOnly m m') where
  holds_by : IsWritten two out m m' → Holds m m' (given_at two out (event_text out.events))
  holds_by w outs.Cells = ap (λ (x : Meaning). x.cells_out.written) only ∙ sym (append-nil m.cells_out.written)
  holds_by w outs.Hp = w.hp
  holds_by w outs.Lp = w.lp
  holds_by w outs.Bytes = ap (λ (x : Meaning). x.bytes_out.written) only ∙ sym (append-nil m.bytes_out.written)
  holds_by w outs.Report = w.report

  fronts_by : IsPartlyWritten two out m m' → HoldsFront m m' (given_at two out (event_text out.events))
  fronts_by w outs.Cells = none_of m.cells_out.written [] m'.cells_out.written (ap (λ (x : Meaning). x.cells_out.written) only)
  fronts_by w outs.Hp = w.hp
  fronts_by w outs.Lp = w.lp
  fronts_by w outs.Bytes = none_of m.bytes_out.written [] m'.bytes_out.written (ap (λ (x : Meaning). x.bytes_out.written) only)
  fronts_by w outs.Report = w.report

-- every prefix of the empty list is empty
take_none : (k : ℕ) → take {A = ℕ} k [] ≡ []
take_none k = take_all k [] (omega arith)

-- a failed write is the stop of a write
stopped_by : (P : Result (Unit {0}) RunError → Type 0) (stop : RunError) → stop ≡ WriteFault → P (Err WriteFault) → P (Err stop)
stopped_by P stop is p = subst (λ (x : RunError). P (Err x)) (sym is) p

-- the lines of events, followed by those of more events
more_lines : (a b c : List Event) → c ≡ a ++ b → flat_map event_line c ≡ flat_map event_line a ++ flat_map event_line b
more_lines a b c e = ap (flat_map event_line) e ∙ flat_map-append event_line a b

module _ (k : Kind) (s : Settings) (two : Bool) (standing' : List ℕ → Written → Type 0) (bytes piece : List ℕ) (r : k.Received) (given : Written) (is : (port : OutPort) → given port ≡ live_of k s two bytes r port)
    (stands : List ℕ → k.Received → Type 0) (out : Output) (takes : TakesAs k stands s bytes piece r out) (standing : standing' (bytes ++ piece) (live_of k s two (bytes ++ piece) takes.after))
    (m m' : Meaning) (only : WritesOnly m m') where
  follows_live : Follows given (given_at two out (event_text out.events)) (live_of k s two (bytes ++ piece) takes.after)
  follows_live = follows_by two given (k.packets r) (k.packets takes.after) out (lines_of k s bytes r) (event_text out.events) (lines_of k s (bytes ++ piece) takes.after) is takes.packets
      (more_lines (events s (symbols s bytes) (k.reports r)) out.events (events s (symbols s (bytes ++ piece)) (k.reports takes.after)) takes.events_are)

  -- the packets and the lines of a piece were written, or prefixes of them
  pub took_piece : (result : Result (Unit {0}) RunError) → (m.tells ≡ true → WritesOut two out m m' result) → IsWriting result → TakesPiece (work_of k s two) standing' bytes piece given m m' result
  took_piece (Ok u) written kind = record {
    after = live_of k s two (bytes ++ piece) takes.after;
    more = given_at two out (event_text out.events);
    is = (standing, (takes.after, takes.live, (λ port. refl)));
    follows = follows_live;
    written = λ t. holds_by two out m m' only (written t);
  }
  took_piece (Err stop) written kind = stopped_by (TakesPiece (work_of k s two) standing' bytes piece given m m') stop kind (record {
    after = live_of k s two (bytes ++ piece) takes.after;
    more = given_at two out (event_text out.events);
    is = (takes.after, takes.live, (λ port. refl));
    follows = follows_live;
    written = λ t. fronts_by two out m m' only (written t).1;
  })

module _ (k : Kind) (s : Settings) (two : Bool) (bytes : List ℕ) (r : k.Received) (given : Written) (is : (port : OutPort) → given port ≡ live_of k s two bytes r port)
    (out : Output) (after : k.Received) (reports : (σ : Stream) → k.reports after σ ≡ k.reports r σ) (final : k.Final s bytes after) (packets : (σ : Stream) → k.packets after σ ≡ k.packets r σ ++ packets_of out σ) (none : out.events ≡ [])
    (m m' : Meaning) (only : WritesOnly m m') where
  -- the events are those from before
  lines_are : lines_of k s bytes after ≡ lines_of k s bytes r
  lines_are = ap (λ (f : Stream → List ℕ). flat_map event_line (events s (symbols s bytes) f)) (λ i σ. reports σ i)

  no_text : event_text out.events ≡ []
  no_text = ap event_text none

  abbrev more : Written
  more = given_at two out (k.closing s bytes after)

  follows_final : Follows given more (final_of k s two bytes after)
  follows_final = follows_by two given (k.packets r) (k.packets after) out (lines_of k s bytes r) (k.closing s bytes after) (lines_of k s bytes after ++ k.closing s bytes after) is packets
      (ap (λ (l : List ℕ). l ++ k.closing s bytes after) lines_are)

  -- the rest of the packets was not written
  pub rest_failed : (stop : RunError) → stop ≡ WriteFault → (m.tells ≡ true → WritesOut two out m m' (Err stop)) → Finishes (work_of k s two) bytes given m m' (Err stop)
  rest_failed stop kind written = stopped_by (Finishes (work_of k s two) bytes given m m') stop kind (record {
    after = final_of k s two bytes after;
    more = more;
    is = (after, final, (λ port. refl));
    follows = follows_final;
    written = λ t. fronts (written t).1;
  })
    where
      fronts : IsPartlyWritten two out m m' → HoldsFront m m' more
      fronts w outs.Cells = fronts_by two out m m' only w outs.Cells
      fronts w outs.Hp = w.hp
      fronts w outs.Lp = w.lp
      fronts w outs.Bytes = fronts_by two out m m' only w outs.Bytes
      fronts w outs.Report =
          none_of m.report.written (k.closing s bytes after) m'.report.written
          (w.report.1 ∙ ap (λ (l : List ℕ). m.report.written ++ take w.report.0 l) no_text ∙ ap (λ (l : List ℕ). m.report.written ++ l) (take_none w.report.0) ∙ append-nil m.report.written)

  -- the closing lines were written, or were not
  module _ (m'' : Meaning) (report_only : ReportOnly m' m'') (written : m.tells ≡ true → WritesOut two out m m' (Ok tt)) where
    tells' : m.tells ≡ true → m'.tells ≡ true
    tells' t = ap (λ (x : Meaning). x.tells) only ∙ t

    report_was : (t : m.tells ≡ true) → m'.report.written ≡ m.report.written
    report_was t = (written t).report ∙ ap (λ (l : List ℕ). m.report.written ++ l) no_text ∙ append-nil m.report.written

    hp_is : (t : m.tells ≡ true) → m''.hp_out.written ≡ m.hp_out.written ++ out.hp
    hp_is t = ap (λ (x : Meaning). x.hp_out.written) report_only ∙ (written t).hp

    lp_is : (t : m.tells ≡ true) → m''.lp_out.written ≡ m.lp_out.written ++ lp_bytes two out.lp
    lp_is t = ap (λ (x : Meaning). x.lp_out.written) report_only ∙ (written t).lp

    cells_is : m''.cells_out.written ≡ m.cells_out.written
    cells_is = ap (λ (x : Meaning). x.cells_out.written) report_only ∙ ap (λ (x : Meaning). x.cells_out.written) only

    bytes_is : m''.bytes_out.written ≡ m.bytes_out.written
    bytes_is = ap (λ (x : Meaning). x.bytes_out.written) report_only ∙ ap (λ (x : Meaning). x.bytes_out.written) only

    pub ended : (result : Result (Unit {0}) RunError) → (m'.tells ≡ true → Appends (k.closing s bytes after) m'.report.written m''.report.written result) → IsWriting result
        → Finishes (work_of k s two) bytes given m m'' result
    ended (Ok u) a kind = record {
      after = final_of k s two bytes after;
      more = more;
      is = (tt, (after, final, (λ port. refl)));
      follows = follows_final;
      written = λ t. elim [
        | outs.Cells ↦ cells_is ∙ sym (append-nil m.cells_out.written)
        | outs.Hp ↦ hp_is t
        | outs.Lp ↦ lp_is t
        | outs.Bytes ↦ bytes_is ∙ sym (append-nil m.bytes_out.written)
        | outs.Report ↦ a (tells' t) ∙ ap (λ (l : List ℕ). l ++ k.closing s bytes after) (report_was t)
      ];
    }
    ended (Err stop) a kind = stopped_by (Finishes (work_of k s two) bytes given m m'') stop kind (record {
      after = final_of k s two bytes after;
      more = more;
      is = (after, final, (λ port. refl));
      follows = follows_final;
      written = λ t. elim [
        | outs.Cells ↦ none_of m.cells_out.written [] m''.cells_out.written cells_is
        | outs.Hp ↦ all_of m.hp_out.written out.hp m''.hp_out.written (hp_is t)
        | outs.Lp ↦ all_of m.lp_out.written (lp_bytes two out.lp) m''.lp_out.written (lp_is t)
        | outs.Bytes ↦ none_of m.bytes_out.written [] m''.bytes_out.written bytes_is
        | outs.Report ↦ (let b = a (tells' t) in (b.1, b.2 ∙ ap (λ (l : List ℕ). l ++ take b.1 (k.closing s bytes after)) (report_was t)))
      ];
    })
