use Rattle.acs_lanes.proofs.LaneLaws.{last_steps}
use Rattle.bit_margin.proofs.lanes16.last_costs.Goals as goal

pub returns : goal.returns
returns c = last_steps c.args.costs
