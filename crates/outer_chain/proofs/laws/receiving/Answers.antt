use Rattle.outer_chain.proofs.Finishing.{nothing_finished, took_byte, finished_word, all_finished}
use Rattle.outer_chain.proofs.laws.receiving.Goals as goal

pub returns-clause-first : goal.returns-clause-first
returns-clause-first c = nothing_finished

pub returns-clause-byte : goal.returns-clause-byte
returns-clause-byte c = took_byte

pub returns-clause-word : goal.returns-clause-word
returns-clause-word c = finished_word

pub returns-clause-all : goal.returns-clause-all
returns-clause-all c = all_finished
