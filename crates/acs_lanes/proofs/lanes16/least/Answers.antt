use Rattle.acs_lanes.proofs.Highs.{all_above, all_close}
use Rattle.acs_lanes.proofs.lanes16.least.Goals as goal

pub returns-clause-below : goal.returns-clause-below
returns-clause-below c = all_above _ _ _ _ _ _ _ c.args.lanes.lanes c.lower.ensures.is c.lower-2.ensures.is c.lower-3.ensures.is c.least_lane.result c.least_lane.ensures.below

pub returns-clause-close : goal.returns-clause-close
returns-clause-close c =
    let (k, l, e) = c.least_lane.ensures.attained in
    all_close _ _ _ _ _ _ _ c.args.lanes.lanes c.lower.ensures.is c.lower-2.ensures.is c.lower-3.ensures.is c.least_lane.result k l e
