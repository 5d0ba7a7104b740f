use Rattle.std.proofs.Common.{refl, sym, subst}
use Rattle.station_core.specs.Meaning.{Meaning}
use Rattle.mode_set.specs.declared.modes.Stream.{Stream}
use Rattle.cmd_modulate.specs.declared.inputs.PacketInputs.{PacketInputs}
use Rattle.cmd_modulate.specs.Work.{GivesOf}
use Rattle.cmd_modulate.proofs.Few.{gives_of_hp, gives_of_lp}
use Rattle.cmd_modulate.proofs.inputs.PacketInputs.next_packet.Goals as goal

pub returns-in-Hp-clause-gives : goal.returns-in-Hp-clause-gives
returns-in-Hp-clause-gives g c = λ told files t read.
    let m : Meaning = g.S.Station.meaning c.args.station.now in
    let m' : Meaning = g.S.Station.meaning c.next.new.station in
    let inputs : PacketInputs = record { hp = c.next.new.self; lp = c.args.self.now.lp } in
    subst (λ (σ : Stream). GivesOf c.args.limit files σ t m' inputs c.next.result) (sym c.in-Hp.is)
    (gives_of_hp c.args.limit files t m m' c.args.self.now inputs read c.next.ensures.others refl c.next.result (c.next.ensures.gives told files t.hp read.hp))

pub returns-in-Lp-clause-gives : goal.returns-in-Lp-clause-gives
returns-in-Lp-clause-gives g c = λ told files t read.
    let m : Meaning = g.S.Station.meaning c.args.station.now in
    let m' : Meaning = g.S.Station.meaning c.next-in-Lp.new.station in
    let inputs : PacketInputs = record { hp = c.args.self.now.hp; lp = c.next-in-Lp.new.self } in
    subst (λ (σ : Stream). GivesOf c.args.limit files σ t m' inputs c.next-in-Lp.result) (sym c.in-Lp.is)
    (gives_of_lp c.args.limit files t m m' c.args.self.now inputs read c.next-in-Lp.ensures.others refl c.next-in-Lp.result (c.next-in-Lp.ensures.gives told files t.lp read.lp))
