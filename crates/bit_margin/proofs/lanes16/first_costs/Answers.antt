use Rattle.acs_lanes.proofs.LaneLaws.{first_steps}
use Rattle.bit_margin.proofs.lanes16.first_costs.Goals as goal

pub returns : goal.returns
returns c = first_steps c.args.costs
