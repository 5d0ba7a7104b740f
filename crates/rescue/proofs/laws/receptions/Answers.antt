use Rattle.rescue.proofs.Received.{one_so_far, one_at_end, at_end_ends_so_far}
use Rattle.rescue.proofs.laws.receptions.Goals as goal

pub returns-clause-so_far : goal.returns-clause-so_far
returns-clause-so_far c = one_so_far c.given_once.ensures.law c.ended_once.ensures.law c.reports_once.ensures.law c.margins_once.ensures.law c.rescued.ensures.one

pub returns-clause-at_end : goal.returns-clause-at_end
returns-clause-at_end c = one_at_end c.given_once.ensures.law c.ended_once.ensures.law c.reports_once.ensures.law c.margins_once.ensures.law c.rescued.ensures.one

pub returns-clause-ends : goal.returns-clause-ends
returns-clause-ends c = at_end_ends_so_far c.given_begins_ended.ensures.law c.reports_once.ensures.law c.bits.ensures.more c.margins_stay.ensures.law c.byte_margins.ensures.more c.rescued.ensures.more
