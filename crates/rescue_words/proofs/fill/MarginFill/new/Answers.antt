use Rattle.outer_chain.proofs.Filling.{none_yet}
use Rattle.rescue_words.proofs.fill.MarginFill.new.Goals as goal

pub returns-clause-empty : goal.returns-clause-empty
returns-clause-empty c = record { carries = c.in_ok-new.ensures.empty; begun = none_yet _ _ }
