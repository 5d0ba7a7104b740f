use Rattle.acs_lanes.proofs.Highs.{b_high, c_high, d_high, lower_all, lower_lanes}
use Rattle.acs_lanes.proofs.lanes16.less_by.Goals as goal

pub less-requires-2-clause-high : goal.less-requires-2-clause-high
less-requires-2-clause-high c = b_high c.args.low _ _ _ _ c.args.lanes.lanes c.requires

pub less-requires-3-clause-high : goal.less-requires-3-clause-high
less-requires-3-clause-high c = c_high c.args.low _ _ _ _ c.args.lanes.lanes c.requires

pub less-requires-4-clause-high : goal.less-requires-4-clause-high
less-requires-4-clause-high c = d_high c.args.low _ _ _ _ c.args.lanes.lanes c.requires

pub invariant_of-result : goal.invariant_of-result
invariant_of-result c = record { lanes = lower_lanes c.args.low _ _ _ _ _ _ _ _ c.args.lanes.lanes c.less.ensures.long c.less-2.ensures.long c.less-3.ensures.long c.less-4.ensures.long c.less.ensures.is c.less-2.ensures.is c.less-3.ensures.is c.less-4.ensures.is }

pub returns : goal.returns
returns c = lower_all c.args.low _ _ _ _ _ _ _ _ c.args.lanes.lanes c.less.ensures.long c.less-2.ensures.long c.less-3.ensures.long c.less-4.ensures.long c.less.ensures.is c.less-2.ensures.is c.less-3.ensures.is c.less-4.ensures.is
