use Rattle.outer_chain.proofs.BitBytes.{byte_of_bits, first_bits, more_bits}
use Rattle.outer_chain.proofs.laws.bits.Goals as goal

pub returns-clause-byte : goal.returns-clause-byte
returns-clause-byte c = byte_of_bits

pub returns-clause-first : goal.returns-clause-first
returns-clause-first c = first_bits

pub returns-clause-more : goal.returns-clause-more
returns-clause-more c = more_bits
