-- The lines of events, joined to one text.
use Rattle.std.proofs.Common.{◌≡◌, ℕ, ◌+◌, ◌<◌, ◌≤◌, true, List, [], ◌∷◌, ◌++◌, inl, inr, length, get_or, take, drop, ◌∙◌, sym, ap, append_assoc, Result, Ok, Err}
use Rattle.std.specs.Prelude.{◌⊎◌}
use Rattle.std.proofs.lemmas.List.{append-nil, take_all, take_more, take-append-drop}
use Rattle.std.proofs.lemmas.List.Concat.{flat_map-append}
use Rattle.std.proofs.Math.Seq.{take-append-add}
use Rattle.station_core.specs.Meaning.{Meaning}
use Rattle.station_core.specs.declared.ports.OutPort.TheVariants as outs
use Rattle.rx_report.specs.Text.{event_line}
use Rattle.rx_report.specs.declared.counts.Event.{Event}
use Rattle.cmd_cells.specs.declared.run_error.RunError.{RunError}
use Rattle.cmd_cells.specs.Writing.{WritesAt}
use Rattle.cmd_receive.specs.Writing.{Appends, event_text}
use Rattle.cmd_cells.proofs.Fronts.{front_of}
use Rattle.cmd_receive.proofs.Keeping.{report_appends}

-- one more event
pub event_more : (events : List Event) (i : ℕ) (d : Event) (line : List ℕ) → i < length events → line ≡ event_line (get_or events i d)
    → event_text (take (i + 1) events) ≡ event_text (take i events) ++ line
event_more events i d line l e =
    ap event_text (take_more events i d l) ∙ flat_map-append event_line (take i events) (get_or events i d ∷ [])
    ∙ ap (λ (z : List ℕ). event_text (take i events) ++ z) (append-nil (event_line (get_or events i d)) ∙ sym e)

-- the text was written up to `done`, the rest of it is pending
abbrev pub Waits : List ℕ → List ℕ → List ℕ → List ℕ → Type 0
Waits before now waiting text = (done : List ℕ) × (now ≡ before ++ done) × (done ++ waiting ≡ text)

pub waits_more : (line waiting waiting' before now now' text text' : List ℕ) → Waits before now waiting text → ((now' ≡ now) × (waiting' ≡ waiting ++ line)) ⊎ ((now' ≡ now ++ waiting) × (waiting' ≡ line))
    → text' ≡ text ++ line → Waits before now' waiting' text'
waits_more line waiting waiting' before now now' text text' w (inl p) e = (
  w.0,
  p.0 ∙ w.1,
  ap (λ (z : List ℕ). w.0 ++ z) p.1 ∙ sym (append_assoc w.0 waiting line) ∙ ap (λ (z : List ℕ). z ++ line) w.2 ∙ sym e,
)
waits_more line waiting waiting' before now now' text text' w (inr p) e = (
  w.0 ++ waiting,
  p.0 ∙ ap (λ (z : List ℕ). z ++ waiting) w.1 ∙ append_assoc before w.0 waiting,
  ap (λ (z : List ℕ). (w.0 ++ waiting) ++ z) p.1 ∙ ap (λ (z : List ℕ). z ++ line) w.2 ∙ sym e,
)

-- a prefix of the pending text was written
pub waits_front : (waiting before now after text all rest : List ℕ) (k : ℕ) → Waits before now waiting text → all ≡ text ++ rest → after ≡ now ++ take k waiting → (j : ℕ) × (after ≡ before ++ take j all)
waits_front waiting before now after text all rest k w e p =
    let f = front_of text rest (length w.0 + k) in (
      f.0,
      p ∙ ap (λ (z : List ℕ). z ++ take k waiting) w.1 ∙ append_assoc before w.0 (take k waiting)
          ∙ ap (λ (z : List ℕ). before ++ z) (
          sym (take-append-add w.0 waiting k) ∙ ap (λ (z : List ℕ). take (length w.0 + k) z) w.2 ∙ f.1 ∙ ap (λ (z : List ℕ). take f.0 z) (sym e)),
    )

-- the events before one are a prefix of all
pub events_split : (events : List Event) (i : ℕ) → event_text events ≡ event_text (take i events) ++ event_text (drop i events)
events_split events i = ap event_text (sym (take-append-drop i events)) ∙ flat_map-append event_line (take i events) (drop i events)

-- the pending part of all was written, or a prefix of it
pub events_written : (events : List Event) (i : ℕ) (waiting before : List ℕ) (m m' : Meaning) (r : Result (Unit {0}) RunError) → length events ≤ i → m.tells ≡ true
    → Waits before m.report.written waiting (event_text (take i events)) → WritesAt outs.Report waiting m m' r → Appends (event_text events) before m'.report.written r
events_written events i waiting before m m' (Ok u) le t w v =
    report_appends waiting m m' (Ok tt) t v ∙ ap (λ (z : List ℕ). z ++ waiting) w.1 ∙ append_assoc before w.0 waiting
    ∙ ap (λ (z : List ℕ). before ++ z) (w.2 ∙ ap event_text (take_all i events le))
events_written events i waiting before m m' (Err r) le t w v =
    let a = report_appends waiting m m' (Err r) t v in
    let f = waits_front waiting before m.report.written m'.report.written (event_text (take i events)) (event_text events) (event_text (drop i events)) a.1 w (events_split events i) a.2 in
    (a.0, f.0, f.1)
