use Rattle.acs_lanes.proofs.Costs16.{sums_are}
use Rattle.bit_margin.proofs.lanes16.four_costs.Goals as goal

pub returns : goal.returns
returns c = sums_are c.args.pair
