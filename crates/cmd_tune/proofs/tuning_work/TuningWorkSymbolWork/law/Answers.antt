use Rattle.cmd_tune.proofs.Tunings.{part}
use Rattle.cmd_tune.proofs.tuning_work.TuningWorkSymbolWork.law.Goals as goal

pub returns : goal.returns
returns g c = record {
  part = λ bytes more given within gives.
      part c.symbols.ensures.same c.costs.ensures.same c.symbols.ensures.tps c.symbols.ensures.bits c.more_bytes.ensures.stays c.args.self.now.settings c.args.self.now.two bytes more given within gives;
}
