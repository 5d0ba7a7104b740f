use Rattle.acs_lanes.proofs.Costs16.{laid_from}
use Rattle.acs_lanes.proofs.step16.step_costs.Goals as goal

pub returns : goal.returns
returns c = laid_from c.args.pair c.repeated-costs.result c.repeated-costs.ensures
