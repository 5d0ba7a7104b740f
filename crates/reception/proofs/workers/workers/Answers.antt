use Rattle.reception.proofs.Alike.{same_live, same_final, same_lines}
use Rattle.reception.proofs.workers.workers.Goals as goal

pub returns-clause-live : goal.returns-clause-live
returns-clause-live c = same_live

pub returns-clause-last : goal.returns-clause-last
returns-clause-last c = same_final

pub returns-clause-lines : goal.returns-clause-lines
returns-clause-lines c = same_lines
