use Rattle.rescue.proofs.Workers.{same_at_end, same_lines, same_so_far}
use Rattle.rescue.proofs.laws.workers.Goals as goal

pub returns-clause-so_far : goal.returns-clause-so_far
returns-clause-so_far c = same_so_far c.costs.ensures.costs

pub returns-clause-at_end : goal.returns-clause-at_end
returns-clause-at_end c = same_at_end c.costs.ensures.costs

pub returns-clause-lines : goal.returns-clause-lines
returns-clause-lines c = same_lines c.costs.ensures.streams c.costs.ensures.events
