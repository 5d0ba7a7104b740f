use Rattle.soft_metric.proofs.Weighing.{tell_apart}
use Rattle.soft_metric.proofs.laws.weights_tell_apart.Goals as goal

pub returns : goal.returns
returns c = tell_apart
