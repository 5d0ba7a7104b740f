use Rattle.bit_pack.proofs.Spelling.{with_bit_is}
use Rattle.bit_pack.proofs.bit_buf.with_bit.Goals as goal

pub returns : goal.returns
returns c = with_bit_is c.args.byte c.args.bit
