use Rattle.outer_chain.proofs.WordLaws.{burst_near, burst_phases, burst_packets}
use Rattle.outer_chain.proofs.BurstWords.{burst_same_near, burst_beginning}
use Rattle.outer_chain.proofs.laws.bursts.Goals as goal

pub returns-clause-near : goal.returns-clause-near
returns-clause-near c = burst_near

pub returns-clause-phases : goal.returns-clause-phases
returns-clause-phases c = burst_phases

pub returns-clause-packets : goal.returns-clause-packets
returns-clause-packets c = burst_packets

pub returns-clause-same_near : goal.returns-clause-same_near
returns-clause-same_near c = burst_same_near

pub returns-clause-beginning : goal.returns-clause-beginning
returns-clause-beginning c = burst_beginning
