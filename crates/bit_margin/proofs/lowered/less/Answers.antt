use Rattle.acs_lanes.proofs.Highs.{lower_len, lower_at}
use Rattle.bit_margin.proofs.lowered.less.Goals as goal

pub returns-clause-long : goal.returns-clause-long
returns-clause-long c = lower_len c.args.low c.args.lanes c.requires.long c.requires.high c.requires.fits

pub returns-clause-is : goal.returns-clause-is
returns-clause-is c = lower_at c.args.low c.args.lanes c.requires.long c.requires.high c.requires.fits
