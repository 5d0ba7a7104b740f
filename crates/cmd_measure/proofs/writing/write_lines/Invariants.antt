use Rattle.std.proofs.Common.{◌≡◌, ◌++◌, true, take}
use Rattle.std.specs.List.{concat}
use Rattle.cmd_receive.specs.Writing.{IsPrinting, ReportOnly}
use Rattle.cmd_measure.specs.Working.{texts}
use Rattle.cmd_measure.proofs.writing.write_lines.Given as goal

-- one line for each pass of the loop was written
abbrev pub invariant-loop-line : goal.invariant-loop-line
invariant-loop-line g l = record {
  printing : IsPrinting (g.S.Station.meaning l.station);
  others : ReportOnly (g.S.Station.meaning l.initial.station) (g.S.Station.meaning l.station);
  write_faults : (g.S.Station.meaning l.station).write_faults ≡ (g.S.Station.meaning l.initial.station).write_faults;
  report_faults : (g.S.Station.meaning l.station).report_faults ≡ (g.S.Station.meaning l.initial.station).report_faults;
  written : (g.S.Station.meaning l.initial.station).tells ≡ true → (g.S.Station.meaning l.station).report.written ≡ (g.S.Station.meaning l.initial.station).report.written ++ concat (texts (take l.line-index l.lines));
}
