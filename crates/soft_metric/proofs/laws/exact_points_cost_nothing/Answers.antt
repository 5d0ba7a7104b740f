use Rattle.soft_metric.proofs.Near.{exact_points}
use Rattle.soft_metric.proofs.laws.exact_points_cost_nothing.Goals as goal

pub returns : goal.returns
returns c = exact_points
