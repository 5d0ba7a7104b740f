use Rattle.station_core.specs.Meaning.{Meaning}
use Rattle.cmd_cells.specs.Work.{Work}
use Rattle.cmd_cells.proofs.Ends.{ended}
use Rattle.cmd_cells.proofs.cells.end.Goals as goal

pub returns-clause-ends : goal.returns-clause-ends
returns-clause-ends g c = λ most file bytes given start few left was.
    let m : Meaning = g.S.Station.meaning c.args.station.now in
    let m' : Meaning = g.S.Station.meaning c.finish.new.station in
    let w : Work = g.X.SymbolWork.work (g.X.SymbolWork.setup c.args.work.now) in
    ended w most file bytes given (g.X.SymbolWork.stands c.args.work.now) start m m' was few left c.finish.ensures.others c.finish.result (c.finish.ensures.finishes bytes given was.stands was.gives)
