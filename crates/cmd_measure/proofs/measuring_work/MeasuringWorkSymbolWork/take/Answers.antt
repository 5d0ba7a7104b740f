use Rattle.std.proofs.Common.{ℕ, ◌++◌, List, refl, ◌∙◌, ap, subst, arith}
use Rattle.std.specs.List.{concat}
use Rattle.station_core.specs.Meaning.{Meaning}
use Rattle.measurer.specs.Seen.{MeasurerState}
use Rattle.reception.specs.Cells.{symbol_length}
use Rattle.cmd_receive.specs.Writing.{Appends}
use Rattle.cmd_base.specs.declared.refusal.Refusal.{Refusal}
use Rattle.measurement.specs.Lines.{MeasureLive}
use Rattle.cmd_measure.specs.Feeder.{FedStands}
use Rattle.cmd_measure.specs.Working.{Prints}
use Rattle.cmd_measure.proofs.Feeding.{live, took}
use Rattle.cmd_measure.proofs.Printing.{prints, report_only}
use Rattle.cmd_measure.proofs.measuring_work.MeasuringWorkSymbolWork.take.Goals as goal

pub write_lines-requires : goal.write_lines-requires
write_lines-requires g c κs = ((refl, tt), record { created = c.requires.open.report; opened = c.requires.open.report_open })

pub returns-clause-setup : goal.returns-clause-setup
returns-clause-setup g c = (c.requires.going.stands.1.1.feeds _ _ _ _ _ _ c.feeder.ensures).settings

pub returns-clause-others : goal.returns-clause-others
returns-clause-others g c = report_only (g.S.Station.meaning c.args.station.now) (g.S.Station.meaning c.write_lines.new.station) c.write_lines.ensures.prints.others

pub returns-clause-takes : goal.returns-clause-takes
returns-clause-takes g c = λ bytes before stood gives none fits.
    let m : Meaning = g.S.Station.meaning c.args.station.now in
    let m' : Meaning = g.S.Station.meaning c.write_lines.new.station in
    let x : MeasurerState = g.T.ModeMeasurer.state c.args.self.now.measurer in
    let y : MeasurerState = g.T.ModeMeasurer.state c.feeder.new.arg2 in
    let stands' : List ℕ → List ℕ → Type 0 = FedStands g.T.ModeMeasurer.size g.T.ModeMeasurer.state g.F.Fn c.args.self.now.feeder c.feeder.new.arg2 in
    let piece : List ℕ = c.args.piece.now in
    let more : List ℕ = concat c.feeder.new.arg4 in
    let fed = stood.1.1.feeds _ _ _ _ _ _ c.feeder.ensures in
    let after = took g.T.ModeMeasurer.size x y bytes piece stood.0 _ _ stood.1.2 (omega (arith, none, fits)) stood.1.0 fed in
    prints (Prints (stands' (bytes ++ piece))) (Prints (MeasureLive x.settings (bytes ++ piece))) (λ (r : Refusal). (left : List ℕ) → ⊥) stood.0 more before m m' c.write_lines.result stood.2
    (stood.0 ++ more, (after, stood.1.1, ap symbol_length fed.settings ∙ stood.1.2), (λ port. refl)) (stood.0 ++ more, live x y (bytes ++ piece) _ fed.settings after, (λ port. refl)) c.write_lines.ensures.prints.others c.write_lines.ensures.prints.kind
    (λ t. subst (λ (l : List (List ℕ)). Appends (concat l) m.report.written m'.report.written c.write_lines.result) c.lines.ensures.lines (c.write_lines.ensures.written t))
