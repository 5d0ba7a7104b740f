use Rattle.soft_metric.proofs.Vectors.{near_halves_fit, near_are}
use Rattle.soft_metric.proofs.lanes.near_costs.Goals as goal

pub overflow_cast-high : goal.overflow_cast-high
overflow_cast-high c = near_halves_fit c.args.magnitudes 16 c.args.level

pub returns : goal.returns
returns c = near_are c.args.magnitudes 16 c.args.level c.requires.level.0 c.requires.level.1 c.fits-magnitudes.0 c.requires.magnitudes
