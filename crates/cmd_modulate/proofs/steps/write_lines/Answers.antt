use Rattle.std.proofs.Common.{List, ℕ, ◌++◌, if◌then◌else◌, [], Ok, Err, subst}
use Rattle.station_core.specs.Meaning.{Meaning}
use Rattle.mode_set.specs.declared.modes.Stream.TheVariants.{Hp, Lp}
use Rattle.cmd_base.specs.Packets.{packets_line}
use Rattle.cmd_modulate.specs.ModulateCommand.{super_frames_line}
use Rattle.cmd_base.specs.Lines.{WritesLines}
use Rattle.cmd_base.proofs.HandedOn.{handed_on}
use Rattle.cmd_base.proofs.ReportLines.{writes_then, writes_stopped}
use Rattle.cmd_modulate.proofs.steps.write_lines.Goals as goal

pub returns-clause-writes : goal.returns-clause-writes
returns-clause-writes g c =
    let m : Meaning = g.S.Station.meaning c.args.station.now in
    let m1 : Meaning = g.S.Station.meaning c.write_line.new.station in
    let m2 : Meaning = g.S.Station.meaning c.write_lp.new.station in
    let m3 : Meaning = g.S.Station.meaning c.write_line-2.new.station in
    let lp : List ℕ = if c.args.two then packets_line Lp c.args.counts.now.lp else [] in
    let frames : List ℕ = super_frames_line c.args.counts.now.super_frames in
    writes_then (packets_line Hp c.args.counts.now.hp) (lp ++ frames) m m1 m3 c.write_line-2.result
    (subst (λ (l : List ℕ). WritesLines l m m1 (Ok tt)) c.packets_line_of.ensures.text c.in_ok-write_line.ensures.writes)
    (writes_then lp frames m1 m2 m3 c.write_line-2.result c.in_ok-write_lp.ensures.writes
    (subst (λ (l : List ℕ). WritesLines l m2 m3 c.write_line-2.result) c.super_frames_line_of.ensures.text c.write_line-2.ensures.writes))

pub returns-in_err-write_lp-clause-writes : goal.returns-in_err-write_lp-clause-writes
returns-in_err-write_lp-clause-writes g c =
    let m : Meaning = g.S.Station.meaning c.args.station.now in
    let m1 : Meaning = g.S.Station.meaning c.write_line.new.station in
    let m2 : Meaning = g.S.Station.meaning c.write_lp.new.station in
    let lp : List ℕ = if c.args.two then packets_line Lp c.args.counts.now.lp else [] in
    let frames : List ℕ = super_frames_line c.args.counts.now.super_frames in
    handed_on c.from_residual-in_err-write_lp.result c.in_err-write_lp.field-0.0 (WritesLines (packets_line Hp c.args.counts.now.hp ++ (lp ++ frames)) m m2) c.from_residual-in_err-write_lp.ensures.1
    (writes_then (packets_line Hp c.args.counts.now.hp) (lp ++ frames) m m1 m2 (Err c.in_err-write_lp.field-0.0)
    (subst (λ (l : List ℕ). WritesLines l m m1 (Ok tt)) c.packets_line_of.ensures.text c.in_ok-write_line.ensures.writes)
    (writes_stopped lp frames m1 m2 c.in_err-write_lp.field-0.0 c.in_err-write_lp.ensures.writes))

pub returns-in_err-write_line-clause-writes : goal.returns-in_err-write_line-clause-writes
returns-in_err-write_line-clause-writes g c =
    let m : Meaning = g.S.Station.meaning c.args.station.now in
    let m1 : Meaning = g.S.Station.meaning c.write_line.new.station in
    let others : List ℕ = (if c.args.two then packets_line Lp c.args.counts.now.lp else []) ++ super_frames_line c.args.counts.now.super_frames in
    handed_on c.from_residual.result c.in_err-write_line.field-0.0 (WritesLines (packets_line Hp c.args.counts.now.hp ++ others) m m1) c.from_residual.ensures.1
    (writes_stopped (packets_line Hp c.args.counts.now.hp) others m m1 c.in_err-write_line.field-0.0
    (subst (λ (l : List ℕ). WritesLines l m m1 (Err c.in_err-write_line.field-0.0)) c.packets_line_of.ensures.text c.in_err-write_line.ensures.writes))
