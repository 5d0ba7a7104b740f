use Rattle.outer_chain.proofs.WordLaws.{outer_are_bytes, own_bytes, own_tally}
use Rattle.outer_chain.proofs.laws.own_bytes.Goals as goal

pub returns-clause-are_bytes : goal.returns-clause-are_bytes
returns-clause-are_bytes c = outer_are_bytes

pub returns-clause-packets : goal.returns-clause-packets
returns-clause-packets c = own_bytes

pub returns-clause-tally : goal.returns-clause-tally
returns-clause-tally c = own_tally
