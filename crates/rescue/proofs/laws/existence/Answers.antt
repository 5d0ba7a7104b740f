use Rattle.rescue.proofs.Whole.{some_so_far, some_at_end}
use Rattle.rescue.proofs.laws.existence.Goals as goal

pub returns-clause-so_far : goal.returns-clause-so_far
returns-clause-so_far c = some_so_far c.existence.ensures.given c.existence.ensures.ended c.existence.ensures.reported c.codewords.ensures.some c.codewords.ensures.one c.some_least.ensures.law

pub returns-clause-at_end : goal.returns-clause-at_end
returns-clause-at_end c = some_at_end c.existence.ensures.given c.existence.ensures.ended c.existence.ensures.reported c.codewords.ensures.some c.codewords.ensures.one c.some_least.ensures.law
