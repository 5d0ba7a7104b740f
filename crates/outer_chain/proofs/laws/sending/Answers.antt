use Rattle.outer_chain.proofs.Sender.{outer_same, more_sent, byte_after_byte}
use Rattle.outer_chain.proofs.laws.sending.Goals as goal

pub returns-clause-beginning : goal.returns-clause-beginning
returns-clause-beginning c = outer_same

pub returns-clause-more : goal.returns-clause-more
returns-clause-more c = more_sent

pub returns-clause-bytes : goal.returns-clause-bytes
returns-clause-bytes c = byte_after_byte
