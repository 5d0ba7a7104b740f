use Rattle.acs_lanes.proofs.Highs.{lanes_low}
use Rattle.acs_lanes.proofs.cost_sums.are_low.Goals as goal

pub returns : goal.returns
returns c = lanes_low c.args.lanes c.requires
