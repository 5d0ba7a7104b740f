use Rattle.std.proofs.Common.{ℕ, ◌++◌, List, refl, subst}
use Rattle.std.specs.List.{concat}
use Rattle.station_core.specs.Meaning.{Meaning}
use Rattle.cmd_cells.specs.Work.{Written}
use Rattle.measurer.specs.Seen.{MeasurerState}
use Rattle.cmd_receive.specs.Writing.{Appends}
use Rattle.cmd_base.specs.declared.refusal.Refusal.{Refusal}
use Rattle.measurement.specs.Lines.{MeasureFinal}
use Rattle.cmd_measure.specs.Working.{Prints}
use Rattle.cmd_measure.proofs.Feeding.{ended}
use Rattle.cmd_measure.proofs.Printing.{prints, report_only}
use Rattle.cmd_measure.proofs.measuring_work.MeasuringWorkSymbolWork.finish.Goals as goal

pub finish-requires : goal.finish-requires
finish-requires g c = record { threads = record { shared = c.requires.able.shared }; going = c.requires.going.stands.1.0.ended }

pub write_lines-requires : goal.write_lines-requires
write_lines-requires g c κs = ((refl, tt), record { created = c.requires.open.report; opened = c.requires.open.report_open })

pub returns-clause-others : goal.returns-clause-others
returns-clause-others g c = report_only (g.S.Station.meaning c.args.station.now) (g.S.Station.meaning c.write_lines.new.station) c.write_lines.ensures.prints.others

pub returns-clause-finishes : goal.returns-clause-finishes
returns-clause-finishes g c = λ bytes before stood gives.
    let m : Meaning = g.S.Station.meaning c.args.station.now in
    let m' : Meaning = g.S.Station.meaning c.write_lines.new.station in
    let x : MeasurerState = g.T.ModeMeasurer.state c.args.self.now.measurer in
    let more : List ℕ = concat c.finish.new.out in
    let final = ended x (g.T.ModeMeasurer.state c.finish.new.self) bytes _ c.finish.ensures.settings (c.finish.ensures.finished bytes stood.0 stood.1.0) in
    prints (λ (after : Written). Unit {0}) (Prints (MeasureFinal x.settings bytes)) (λ (r : Refusal). ⊥) stood.0 more before m m' c.write_lines.result stood.2
    tt (stood.0 ++ more, final, (λ port. refl)) c.write_lines.ensures.prints.others c.write_lines.ensures.prints.kind
    (λ t. subst (λ (l : List (List ℕ)). Appends (concat l) m.report.written m'.report.written c.write_lines.result) c.lines.ensures.lines (c.write_lines.ensures.written t))
