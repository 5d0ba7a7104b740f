use Rattle.acs_lanes.proofs.LaneLaws.{four_sums}
use Rattle.acs_lanes.proofs.lanes.four_costs.Goals as goal

pub returns : goal.returns
returns c = four_sums c.args.pair
