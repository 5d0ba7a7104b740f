use Rattle.bit_interleave.proofs.OneBit.{sent_bit_is_found}
use Rattle.bit_interleave.proofs.laws.each_bit_is_found.Goals as goal

pub returns : goal.returns
returns c = sent_bit_is_found
