use Rattle.acs_lanes.proofs.Highs.{lowest_len, lowest_at}
use Rattle.acs_lanes.proofs.lanes16.lower.Goals as goal

pub returns-clause-long : goal.returns-clause-long
returns-clause-long c = lowest_len c.args.x c.args.y c.requires.x c.requires.y

pub returns-clause-is : goal.returns-clause-is
returns-clause-is c = lowest_at c.args.x c.args.y c.requires.x c.requires.y
