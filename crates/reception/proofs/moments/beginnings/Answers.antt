use Rattle.reception.proofs.Beginnings.{live_begins_live, live_begins_final, whole_symbols_give}
use Rattle.reception.proofs.moments.beginnings.Goals as goal

pub returns-clause-live : goal.returns-clause-live
returns-clause-live c = live_begins_live c.events.ensures.later c.costs.ensures.grow c.costs.ensures.long c.steps.ensures.grow c.receptions.ensures.grows

pub returns-clause-last : goal.returns-clause-last
returns-clause-last c = live_begins_final c.existence.ensures.live c.events.ensures.later c.costs.ensures.grow c.costs.ensures.long c.steps.ensures.grow c.receptions.ensures.grows c.receptions.ensures.ends

pub returns-clause-whole : goal.returns-clause-whole
returns-clause-whole c = whole_symbols_give c.symbols.ensures.same c.costs.ensures.same c.symbols.ensures.tps c.symbols.ensures.bits
