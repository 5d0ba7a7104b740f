use Rattle.outer_chain.proofs.DecodedWords.{decoded_is_near, decoded_packet, clean_is_codeword}
use Rattle.outer_chain.proofs.laws.decoding.Goals as goal

pub returns-clause-near : goal.returns-clause-near
returns-clause-near c = decoded_is_near

pub returns-clause-packet : goal.returns-clause-packet
returns-clause-packet c = decoded_packet

pub returns-clause-clean : goal.returns-clause-clean
returns-clause-clean c = clean_is_codeword
