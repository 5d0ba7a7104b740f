use Rattle.transmission.proofs.Endless.{endless_is_refused}
use Rattle.transmission.proofs.PacketCounts.{sent_at_fault}
use Rattle.transmission.proofs.Points.{work_begins, takes_of_hp, takes_of_lp, sends_symbol, stops_at_limit, stops_at_packet, ends_unrefused, sent_so_far}
use Rattle.transmission.proofs.laws.work.Goals as goal

pub returns-clause-begins : goal.returns-clause-begins
returns-clause-begins c = work_begins c.packets.ensures.none

pub returns-clause-takes_hp : goal.returns-clause-takes_hp
returns-clause-takes_hp c = takes_of_hp

pub returns-clause-takes_lp : goal.returns-clause-takes_lp
returns-clause-takes_lp c = takes_of_lp

pub returns-clause-sends : goal.returns-clause-sends
returns-clause-sends c = sends_symbol c.packets.ensures.grow

pub returns-clause-at_limit : goal.returns-clause-at_limit
returns-clause-at_limit c = stops_at_limit c.packets.ensures.grow

pub returns-clause-at_packet : goal.returns-clause-at_packet
returns-clause-at_packet c = stops_at_packet c.packets.ensures.grow

pub returns-clause-ends : goal.returns-clause-ends
returns-clause-ends c = ends_unrefused c.packets.ensures.grow

pub returns-clause-endless : goal.returns-clause-endless
returns-clause-endless c = endless_is_refused

pub returns-clause-so_far : goal.returns-clause-so_far
returns-clause-so_far c = sent_so_far c.packets.ensures.grow

pub returns-clause-at_fault : goal.returns-clause-at_fault
returns-clause-at_fault c = sent_at_fault c.packets.ensures.grow
