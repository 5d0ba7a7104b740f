use Rattle.bit_pack.proofs.WordBits.{joined_is}
use Rattle.bit_pack.proofs.bit_word.joined.Goals as goal

pub returns : goal.returns
returns c = λ n room. joined_is c.args.high c.args.low c.args.places n c.ranges.high.fits c.requires.places room
