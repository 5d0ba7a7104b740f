use Rattle.std.proofs.Common.{◌∙◌}
use Rattle.soft_metric.proofs.Vectors.{halves_fit, scaled_are}
use Rattle.soft_metric.proofs.lanes.scaled.Goals as goal

pub overflow_cast-high : goal.overflow_cast-high
overflow_cast-high c = halves_fit c.args.gaps 16

pub returns : goal.returns
returns c = c.lesser.ensures ∙ scaled_are c.args.gaps 16 c.fits-gaps.0 c.fits-gaps.1
