use Rattle.transmission.proofs.PacketCounts.{the_packets_are_least, no_packets, packets_grow, packets_of_super_frames}
use Rattle.transmission.proofs.laws.packets.Goals as goal

pub returns-clause-least : goal.returns-clause-least
returns-clause-least c = the_packets_are_least

pub returns-clause-none : goal.returns-clause-none
returns-clause-none c = no_packets c.steps.ensures.none

pub returns-clause-grow : goal.returns-clause-grow
returns-clause-grow c = packets_grow c.steps.ensures.grow

pub returns-clause-super_frames : goal.returns-clause-super_frames
returns-clause-super_frames c = packets_of_super_frames c.words.ensures.whole
