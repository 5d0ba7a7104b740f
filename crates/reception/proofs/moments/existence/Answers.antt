use Rattle.reception.proofs.Whole.{some_live, some_final}
use Rattle.reception.proofs.moments.existence.Goals as goal

pub returns-clause-live : goal.returns-clause-live
returns-clause-live c = some_live c.codewords.ensures.some c.codewords.ensures.one c.existence.ensures.reported c.existence.ensures.given

pub returns-clause-last : goal.returns-clause-last
returns-clause-last c = some_final c.codewords.ensures.some c.codewords.ensures.one c.existence.ensures.reported c.existence.ensures.ended
