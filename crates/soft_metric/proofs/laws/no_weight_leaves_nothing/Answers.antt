use Rattle.soft_metric.proofs.Weighing.{nothing}
use Rattle.soft_metric.proofs.laws.no_weight_leaves_nothing.Goals as goal

pub returns : goal.returns
returns c = nothing
