use Rattle.acs_lanes.proofs.Highs.{higher_len, higher_at}
use Rattle.acs_lanes.proofs.lanes16.higher.Goals as goal

pub returns-clause-long : goal.returns-clause-long
returns-clause-long c = higher_len c.args.x c.args.y c.requires.x c.requires.y

pub returns-clause-is : goal.returns-clause-is
returns-clause-is c = higher_at c.args.x c.args.y c.requires.x c.requires.y
