use Rattle.rescue_words.proofs.Once.{one_recovery, one_rescue, more_rescued}
use Rattle.rescue_words.proofs.laws.rescued.Goals as goal

pub returns-clause-one_recovery : goal.returns-clause-one_recovery
returns-clause-one_recovery c = one_recovery c.least_once.ensures.law

pub returns-clause-one : goal.returns-clause-one
returns-clause-one c = one_rescue c.least_once.ensures.law

pub returns-clause-more : goal.returns-clause-more
returns-clause-more c = more_rescued c.least_once.ensures.law
