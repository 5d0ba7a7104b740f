use Rattle.acs_lanes.proofs.Highs.{roomy_is}
use Rattle.acs_lanes.proofs.lanes16.less_by_least.Goals as goal

pub returns : goal.returns
returns c = roomy_is c.least.result _ _ (c.least.ensures.close c.requires) c.less_by.ensures
