use Rattle.std.proofs.Common.{◌≡◌, ◌≤◌, true, take}
use Rattle.cmd_receive.specs.Writing.{IsPrinting, ReportOnly, event_text}
use Rattle.cmd_receive.proofs.Events.{Waits}
use Rattle.cmd_receive.proofs.writing.write_events.Given as goal

-- the lines of one event for each pass were written, except the pending ones
abbrev pub invariant-loop-event : goal.invariant-loop-event
invariant-loop-event g l = record {
  printing : IsPrinting (g.S.Station.meaning l.station);
  others : ReportOnly (g.S.Station.meaning l.initial.station) (g.S.Station.meaning l.station);
  write_faults : (g.S.Station.meaning l.station).write_faults ≡ (g.S.Station.meaning l.initial.station).write_faults;
  later_report : (g.S.Station.meaning l.initial.station).report_faults ≤ (g.S.Station.meaning l.station).report_faults;
  written : (g.S.Station.meaning l.initial.station).tells ≡ true → Waits (g.S.Station.meaning l.initial.station).report.written (g.S.Station.meaning l.station).report.written l.text.bytes (event_text (take l.event-index l.events));
}
