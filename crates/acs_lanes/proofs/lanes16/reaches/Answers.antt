use Rattle.acs_lanes.proofs.Highs.{reaches_low}
use Rattle.acs_lanes.proofs.lanes16.reaches.Goals as goal

pub returns : goal.returns
returns c = record { low = reaches_low c.args.lanes c.requires }
