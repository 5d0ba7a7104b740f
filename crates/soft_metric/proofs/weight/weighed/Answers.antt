use Rattle.soft_metric.proofs.Fifteenths.{halves_fit, fifteenths_are}
use Rattle.soft_metric.proofs.weight.weighed.Goals as goal

pub overflow_cast-high : goal.overflow_cast-high
overflow_cast-high c = halves_fit c.args.costs c.args.weights 16

pub returns : goal.returns
returns c = fifteenths_are c.args.costs c.args.weights 16 c.fits-costs.0 c.fits-weights.0
