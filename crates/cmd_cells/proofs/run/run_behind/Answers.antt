use Rattle.std.proofs.Common.{◌≡◌, ◌<◌, true, Result, arith, subst, sym}
use Rattle.std.specs.Result.{result_and}
use Rattle.station_core.specs.Meaning.{Meaning}
use Rattle.cmd_cells.specs.Work.{HasReason, Work}
use Rattle.cmd_cells.specs.Outputs.{Names}
use Rattle.cmd_cells.specs.declared.run_error.RunError.{RunError}
use Rattle.cmd_cells.specs.Stops.{HasEndCause}
use Rattle.cmd_cells.specs.Cells.{EndsWithin}
use Rattle.cmd_cells.specs.Runs.{RanBehind}
use Rattle.cmd_cells.proofs.Causes.{end_cause}
use Rattle.cmd_cells.proofs.Runs.{keeps_flushed, settled_reason, worked, works_settled, works_then_closed}
use Rattle.cmd_cells.proofs.run.run_behind.Goals as goal

pub returns-clause-ran : goal.returns-clause-ran
returns-clause-ran g c =
    let old : Meaning = g.S.Station.meaning c.args.station.now in
    let m1 : Meaning = g.S.Station.meaning c.create.new.station in
    let m2 : Meaning = g.S.Station.meaning c.work_on_cells-worked.new.station in
    let m3 : Meaning = g.S.Station.meaning c.settle-settled.new.station in
    let new : Meaning = g.S.Station.meaning c.close-closed.new.station in
    let names : Names = g.F.OutputFiles.names c.args.files.now in
    let w : Work = g.X.SymbolWork.work (g.X.SymbolWork.setup c.args.work.now) in
    let e = c.work_on_cells-worked.ensures in
    let flush = c.settle-settled.ensures in
    let closes = c.close-closed.ensures.closes in
    let some : 0 < w.size = omega (arith, c.requires.some, c.requires.size) in
    subst (λ (r : Result (Unit {0}) RunError). RanBehind w c.args.max_symbols names old new r) (sym c.and.ensures)
    (worked names old m1 c.in_ok-create.ensures.makes c.requires.begin w c.args.max_symbols m3 new (keeps_flushed m1 m2 m3 e.others flush.others) closes (result_and c.settle-settled.result c.close-closed.result)
    (works_then_closed w c.args.max_symbols m1.cells.left m1 m3 new closes.others c.settle-settled.result c.close-closed.result c.close-closed.ensures.kind
    (works_settled w c.args.max_symbols m1.cells.left m1 m2 m3 some flush.others c.work_on_cells-worked.result c.settle-settled.result flush.settles e.reason e.works)))

pub returns-clause-cause : goal.returns-clause-cause
returns-clause-cause g c =
    let old : Meaning = g.S.Station.meaning c.args.station.now in
    let m1 : Meaning = g.S.Station.meaning c.create.new.station in
    let m2 : Meaning = g.S.Station.meaning c.work_on_cells-worked.new.station in
    let m3 : Meaning = g.S.Station.meaning c.settle-settled.new.station in
    let new : Meaning = g.S.Station.meaning c.close-closed.new.station in
    let names : Names = g.F.OutputFiles.names c.args.files.now in
    let w : Work = g.X.SymbolWork.work (g.X.SymbolWork.setup c.args.work.now) in
    let e = c.work_on_cells-worked.ensures in
    let shut = c.close-closed.ensures in
    subst (λ (r : Result (Unit {0}) RunError). HasEndCause (old.tells ≡ true → EndsWithin w c.args.max_symbols old.cells.left) old new r) (sym c.and.ensures)
    (end_cause w c.args.max_symbols names old m1 m2 m3 new c.in_ok-create.ensures.cause c.in_ok-create.ensures.makes e.others shut.closes.others c.work_on_cells-worked.result c.settle-settled.result c.close-closed.result c.settle-settled.ensures.settles shut.kind e.cause e.works shut.cause)

pub returns-clause-reason : goal.returns-clause-reason
returns-clause-reason g c =
    let m2 : Meaning = g.S.Station.meaning c.work_on_cells-worked.new.station in
    let m3 : Meaning = g.S.Station.meaning c.settle-settled.new.station in
    let w : Work = g.X.SymbolWork.work (g.X.SymbolWork.setup c.args.work.now) in
    subst (λ (r : Result (Unit {0}) RunError). HasReason w r) (sym c.and.ensures)
    (settled_reason w m2 m3 c.work_on_cells-worked.result c.settle-settled.result c.close-closed.result c.settle-settled.ensures.settles c.work_on_cells-worked.ensures.reason c.close-closed.ensures.kind)
