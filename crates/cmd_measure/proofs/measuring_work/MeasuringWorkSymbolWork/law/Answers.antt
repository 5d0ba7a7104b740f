use Rattle.cmd_measure.proofs.Whole.{part_live}
use Rattle.cmd_measure.proofs.measuring_work.MeasuringWorkSymbolWork.law.Goals as goal

pub returns : goal.returns
returns g c = record {
  part = λ bytes more given within is. (is.0, part_live c.symbols.ensures.same c.sums_stay.ensures.law (g.T.ModeMeasurer.state c.args.self.now.measurer).settings bytes more is.0 within is.1, is.2);
}
