use Rattle.soft_metric.proofs.Wrapping.{square_wraps}
use Rattle.soft_metric.proofs.axis.near_square.Goals as goal

pub returns : goal.returns
returns c = square_wraps c.args.magnitude c.args.level c.requires.magnitude c.requires.level
