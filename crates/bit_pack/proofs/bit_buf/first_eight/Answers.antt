use Rattle.bit_pack.proofs.Spelling.{first_eight_is}
use Rattle.bit_pack.proofs.bit_buf.first_eight.Goals as goal

pub returns : goal.returns
returns c = first_eight_is c.args.high c.args.high_len c.args.low c.args.low_len c.joined.result c.requires.high c.requires.low c.requires.enough c.joined.ensures
