use Rattle.std.proofs.Common.{List, ℕ, ◌++◌, Ok, Err, subst}
use Rattle.station_core.specs.Meaning.{Meaning}
use Rattle.mode_set.specs.declared.modes.Stream.TheVariants.{Hp}
use Rattle.cmd_trial.specs.TrialCommand.{cells_line, lp_return_line, return_line}
use Rattle.cmd_base.specs.Lines.{WritesLines}
use Rattle.cmd_base.proofs.HandedOn.{handed_on}
use Rattle.cmd_base.proofs.ReportLines.{writes_then, writes_stopped}
use Rattle.cmd_trial.proofs.lines.write_lines.Goals as goal

pub returns-clause-writes : goal.returns-clause-writes
returns-clause-writes g c =
    let m : Meaning = g.S.Station.meaning c.args.station.now in
    let m' : Meaning = g.S.Station.meaning c.write_line.new.station in
    let m'' : Meaning = g.S.Station.meaning c.write_streams.new.station in
    let others : List ℕ = return_line Hp c.args.counts.now.hp ++ lp_return_line c.args.counts.now.lp in
    writes_then (cells_line c.args.counts.now) others m m' m'' c.write_streams.result
    (subst (λ (l : List ℕ). WritesLines l m m' (Ok tt)) c.cells_line_of.ensures.text c.in_ok-write_line.ensures.writes)
    c.write_streams.ensures.writes

pub returns-in_err-write_line-clause-writes : goal.returns-in_err-write_line-clause-writes
returns-in_err-write_line-clause-writes g c =
    let m : Meaning = g.S.Station.meaning c.args.station.now in
    let m' : Meaning = g.S.Station.meaning c.write_line.new.station in
    let others : List ℕ = return_line Hp c.args.counts.now.hp ++ lp_return_line c.args.counts.now.lp in
    handed_on c.from_residual.result c.in_err-write_line.field-0.0 (WritesLines (cells_line c.args.counts.now ++ others) m m') c.from_residual.ensures.1
    (writes_stopped (cells_line c.args.counts.now) others m m' c.in_err-write_line.field-0.0
    (subst (λ (l : List ℕ). WritesLines l m m' (Err c.in_err-write_line.field-0.0)) c.cells_line_of.ensures.text c.in_err-write_line.ensures.writes))
