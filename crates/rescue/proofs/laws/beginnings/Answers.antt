use Rattle.rescue.proofs.Received.{so_far_begins_so_far, so_far_begins_at_end, whole_symbols_give}
use Rattle.rescue.proofs.laws.beginnings.Goals as goal

pub returns-clause-so_far : goal.returns-clause-so_far
returns-clause-so_far c =
    so_far_begins_so_far c.given_grows.ensures.law c.given_begins_ended.ensures.law c.existence.ensures.given c.reports_grow.ensures.law c.bits.ensures.more c.margins_stay.ensures.law c.byte_margins.ensures.more c.rescued.ensures.more
    c.steps.ensures.grow c.costs.ensures.grow c.costs.ensures.long c.events.ensures.later

pub returns-clause-at_end : goal.returns-clause-at_end
returns-clause-at_end c =
    so_far_begins_at_end c.given_grows.ensures.law c.given_begins_ended.ensures.law c.existence.ensures.given c.reports_grow.ensures.law c.bits.ensures.more c.margins_stay.ensures.law c.byte_margins.ensures.more c.rescued.ensures.more
    c.steps.ensures.grow c.costs.ensures.grow c.costs.ensures.long c.events.ensures.later

pub returns-clause-whole : goal.returns-clause-whole
returns-clause-whole c = whole_symbols_give c.costs.ensures.same
