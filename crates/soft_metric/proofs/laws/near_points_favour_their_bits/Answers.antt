use Rattle.soft_metric.proofs.Near.{near_points}
use Rattle.soft_metric.proofs.laws.near_points_favour_their_bits.Goals as goal

pub returns : goal.returns
returns c = near_points
