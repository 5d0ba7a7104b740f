use Rattle.puncture.proofs.Spelling.{with_bit_is}
use Rattle.puncture.proofs.eight_steps.with_bit.Goals as goal

pub returns : goal.returns
returns c = with_bit_is c.args.word c.args.bit
