use Rattle.trial.specs.Drawn.{drawn}
use Rattle.modulator.specs.State.{Transmitter}
use Rattle.trial.specs.declared.draws.Draws.{Draws}
use Rattle.trial.proofs.PacketSteps.{lp_next, lp_put, seen_again}
use Rattle.trial.proofs.draws.put_lp.Goals as goal

pub returns-clause-putting : goal.returns-clause-putting
returns-clause-putting g c =
    let d : Draws = c.args.draws.now in
    let t : Transmitter = c.args.tx.now in
    let t' : Transmitter = c.put.new.self in
    let i = c.requires.putting in
    let next = lp_next c.draws_add.ensures c.packets.ensures.order c.packets.ensures.nulls t.settings t.made d t c.requires.within i c.requires.wanted c.next_packet-packet.result c.next_packet-packet.ensures.packet in
    let put = c.put.ensures.put (drawn t.settings d.number) i.put next in
    seen_again t.settings t'.settings t.made t'.made (record d { load = c.next_packet-packet.new.load; lp_left = c.next_packet-packet.new.left }) t' c.put.ensures.settings c.put.ensures.made
    (lp_put c.draws_add.ensures c.packets.ensures.order c.packets.ensures.nulls t.settings t.made d t c.requires.within i c.requires.wanted c.next_packet-packet.new.left c.next_packet-packet.new.load t'
    c.next_packet-packet.ensures.left c.next_packet-packet.ensures.load c.put.ensures.settings c.put.ensures.made c.put.ensures.counts put)
