use Rattle.acs_lanes.proofs.Highs.{all_low}
use Rattle.acs_lanes.proofs.lanes16.is_high.Goals as goal

pub returns : goal.returns
returns c = record { low = λ t. all_low _ _ _ _ _ _ _ c.args.lanes.lanes c.higher.ensures.is c.higher-2.ensures.is c.higher-3.ensures.is (c.reaches.ensures.low t) }
