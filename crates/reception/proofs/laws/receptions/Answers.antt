use Rattle.reception.proofs.Received.{one_live, one_final, live_grows, final_ends_live}
use Rattle.reception.proofs.laws.receptions.Goals as goal

pub returns-clause-live : goal.returns-clause-live
returns-clause-live c = one_live c.given_once.ensures.law c.reports_once.ensures.law c.growth.ensures.one_packets c.growth.ensures.one_tally

pub returns-clause-last : goal.returns-clause-last
returns-clause-last c = one_final c.ended_once.ensures.law c.reports_once.ensures.law c.growth.ensures.one_packets c.growth.ensures.one_tally

pub returns-clause-grows : goal.returns-clause-grows
returns-clause-grows c = live_grows c.given_grows.ensures.law c.reports_grow.ensures.law c.bits.ensures.more c.growth.ensures.more

pub returns-clause-ends : goal.returns-clause-ends
returns-clause-ends c = final_ends_live c.given_begins_ended.ensures.law c.reports_once.ensures.law c.bits.ensures.more c.growth.ensures.more
