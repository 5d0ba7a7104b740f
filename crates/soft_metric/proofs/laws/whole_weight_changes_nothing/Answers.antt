use Rattle.soft_metric.proofs.Weighing.{whole}
use Rattle.soft_metric.proofs.laws.whole_weight_changes_nothing.Goals as goal

pub returns : goal.returns
returns c = whole
