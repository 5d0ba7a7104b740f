use Rattle.outer_chain.proofs.WordLaws.{one_near, one_packets, one_tally, more_packets}
use Rattle.outer_chain.proofs.Finishing.{word_stays}
use Rattle.outer_chain.proofs.laws.growth.Goals as goal

pub returns-clause-one_near : goal.returns-clause-one_near
returns-clause-one_near c = one_near

pub returns-clause-one_packets : goal.returns-clause-one_packets
returns-clause-one_packets c = one_packets

pub returns-clause-one_tally : goal.returns-clause-one_tally
returns-clause-one_tally c = one_tally

pub returns-clause-more : goal.returns-clause-more
returns-clause-more c = more_packets

pub returns-clause-word : goal.returns-clause-word
returns-clause-word c = word_stays
