use Rattle.std.proofs.Common.{◌+◌, ℕ, List, [], take, drop, refl, sym, ◌∙◌, ap, subst, arith}
use Rattle.std.proofs.lemmas.List.{append-nil}
use Rattle.station_core.specs.Meaning.{Meaning}
use Rattle.station_core.specs.declared.ports.OutPort.TheVariants as outs
use Rattle.cmd_cells.specs.Writing.{WritesAt}
use Rattle.cmd_base.proofs.HandedOn.{handed_on}
use Rattle.cmd_receive.specs.Writing.{Appends, event_text}
use Rattle.cmd_receive.proofs.Events.{event_more, waits_more, waits_front, events_split, events_written}
use Rattle.cmd_receive.proofs.Keeping.{report_again}
use Rattle.cmd_receive.proofs.writing.write_events.Goals as goal

pub loop-event-init : goal.loop-event-init
loop-event-init g c = record {
  printing = c.requires.printing;
  others = refl;
  write_faults = refl;
  later_report = omega arith;
  written = λ t. ([], sym (append-nil (g.S.Station.meaning c.args.station.now).report.written), c.new-text.ensures);
}

pub returns-in_err-push_line-clause-written : goal.returns-in_err-push_line-clause-written
returns-in_err-push_line-clause-written g c = λ t.
    let m : Meaning = g.S.Station.meaning c.args.station.now in
    let m' : Meaning = g.S.Station.meaning c.loop-event.station in
    let m'' : Meaning = g.S.Station.meaning c.push_line.new.station in
    let inv = c.loop-event.invariant in
    let i : ℕ = c.loop-event.event-index in
    let events = c.args.events.now in
    let e = c.in_err-push_line.ensures.pushes (ap (λ (x : Meaning). x.tells) inv.others ∙ t) in
    let f = waits_front c.loop-event.text.bytes m.report.written m'.report.written m''.report.written (event_text (take i events)) (event_text events) (event_text (drop i events)) e.1 (inv.written t) (events_split events i) e.2 in
    handed_on c.from_residual.result c.in_err-push_line.field-0.0 (Appends (event_text events) m.report.written m''.report.written) c.from_residual.ensures.1
    (e.0, f.0, f.1)

pub loop-event-preserved : goal.loop-event-preserved
loop-event-preserved g c =
    let m : Meaning = g.S.Station.meaning c.args.station.now in
    let m' : Meaning = g.S.Station.meaning c.loop-event.station in
    let m'' : Meaning = g.S.Station.meaning c.push_line.new.station in
    let inv = c.loop-event.invariant in
    let e = c.in_ok-push_line.ensures in
    let i : ℕ = c.loop-event.event-index in
    record {
      printing = record { created = ap (λ (x : Meaning). x.report.created) e.prints.others ∙ inv.printing.created; opened = ap (λ (x : Meaning). x.report.closed) e.prints.others ∙ inv.printing.opened };
      others = report_again m m' m'' inv.others e.prints.others;
      write_faults = e.prints.cause.1 ∙ inv.write_faults;
      later_report = omega (arith, e.prints.later_report, inv.later_report);
      written = λ t. waits_more c.line.result.bytes c.loop-event.text.bytes c.push_line.new.text.bytes m.report.written m'.report.written m''.report.written
          (event_text (take i c.args.events.now)) (event_text (take (i + 1) c.args.events.now)) (inv.written t) (e.pushes (ap (λ (x : Meaning). x.tells) inv.others ∙ t))
          (event_more c.args.events.now i _ c.line.result.bytes c.loop-event-test.true c.line.ensures);
    }

pub returns-clause-written : goal.returns-clause-written
returns-clause-written g c = λ t.
    let m : Meaning = g.S.Station.meaning c.args.station.now in
    let m' : Meaning = g.S.Station.meaning c.loop-event.station in
    let m'' : Meaning = g.S.Station.meaning c.write_some.new.station in
    let inv = c.loop-event.invariant in
    events_written c.args.events.now c.loop-event.event-index c.loop-event.text.bytes m.report.written m' m'' c.write_some.result c.loop-event-test.false
    (ap (λ (x : Meaning). x.tells) inv.others ∙ t) (inv.written t)
    (subst (λ (b : List ℕ). WritesAt outs.Report b m' m'' c.write_some.result) (c.as_bytes.ensures.value ∙ c.as_str.ensures.value) c.write_some.ensures.writes)
