use Rattle.soft_metric.proofs.Vectors.{lesser_is}
use Rattle.soft_metric.proofs.lanes.lesser.Goals as goal

pub returns : goal.returns
returns c = lesser_is c.args.a c.args.b
