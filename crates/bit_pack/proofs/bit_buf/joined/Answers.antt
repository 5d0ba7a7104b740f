use Rattle.bit_pack.proofs.Spelling.{joined_is}
use Rattle.bit_pack.proofs.bit_buf.joined.Goals as goal

pub returns : goal.returns
returns c = joined_is c.args.high c.args.low c.args.places c.ranges.high.fits c.requires.places
