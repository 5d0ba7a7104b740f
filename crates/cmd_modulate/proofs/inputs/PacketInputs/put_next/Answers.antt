use Rattle.station_core.specs.Meaning.{Meaning}
use Rattle.cmd_base.specs.declared.refusal.Refusal.{Refusal}
use Rattle.cmd_base.proofs.HandedOn.{handed_on}
use Rattle.modulator.specs.State.{HasPut}
use Rattle.cmd_modulate.specs.ModulateCommand.{inputs_of}
use Rattle.cmd_modulate.specs.Seen.{Seen, seen_of}
use Rattle.cmd_modulate.specs.Work.{GoesOn}
use Rattle.cmd_modulate.proofs.Few.{few_near}
use Rattle.cmd_modulate.proofs.Stopping.{are_near, goes_on, one_put, stops}
use Rattle.cmd_modulate.proofs.inputs.PacketInputs.put_next.Goals as goal

pub returns-clause-works : goal.returns-clause-works
returns-clause-works g c = λ t files due work.
    let m : Meaning = g.S.Station.meaning c.next_packet.new.station in
    let seen : Seen = seen_of c.args.tx.now in
    let seen' : Seen = seen_of c.put.new.self in
    goes_on c.work.ensures.takes_hp c.work.ensures.takes_lp c.args.limit files seen work.at c.args.stream c.requires.wanted m c.next_packet.new.self seen'
    (HasPut c.put.new.self) c.in_ok-packet.packet (c.in_ok-packet.ensures.gives t files seen work.read) (one_put c.args.stream c.args.tx.now c.put.new.self c.requires.wanted c.put.ensures.settings c.put.ensures.made c.put.ensures.counts)
    (c.put.ensures.put (inputs_of files) work.stands)

pub returns-in_err-packet-clause-works : goal.returns-in_err-packet-clause-works
returns-in_err-packet-clause-works g c = λ t files due work.
    let m : Meaning = g.S.Station.meaning c.next_packet.new.station in
    let seen : Seen = seen_of c.args.tx.now in
    let refusal : Refusal = c.in_err-packet.field-0.0 in
    let gives = c.in_err-packet.ensures.gives t files seen work.read in
    handed_on c.from_residual.result refusal (GoesOn c.args.limit files m c.next_packet.new.self seen (HasPut c.args.tx.now)) c.from_residual.ensures.1 (
      stops c.work.ensures.at_packet c.work.ensures.so_far c.work.ensures.at_fault c.args.limit files c.args.stream seen c.requires.wanted due work.at
          m c.next_packet.new.self refusal gives,
      few_near c.args.limit files m seen work.at.accepted (are_near c.args.limit files c.args.stream seen m c.next_packet.new.self refusal gives),
    )
