use Rattle.std.proofs.Common.{◌∙◌, sym}
use Rattle.station_core.specs.Meaning.{Meaning}
use Rattle.cmd_modulate.specs.Inputs.{left_of}
use Rattle.cmd_modulate.proofs.Taking.{behind, read_failed}
use Rattle.cmd_modulate.proofs.input.PacketInput.next.Goals as goal

pub returns-then-is_some-clause-gives : goal.returns-then-is_some-clause-gives
returns-then-is_some-clause-gives g c = λ t files put reads.
    let m : Meaning = g.S.Station.meaning c.args.station.now in
    let b = behind c.args.limit files c.args.stream put (left_of m c.args.stream) c.args.self.now (sym c.is_some.ensures ∙ c.if-is_some.true) reads in
    (c.null.ensures.null ∙ b.0, b.1, b.2)

pub returns-in-Err-clause-gives : goal.returns-in-Err-clause-gives
returns-in-Err-clause-gives g c = λ t files put reads.
    let m : Meaning = g.S.Station.meaning c.args.station.now in
    let m' : Meaning = g.S.Station.meaning c.fill.new.station in
    let e = c.in-Err.ensures.err in
    read_failed c.args.limit files c.args.stream put m m' c.args.self.now (sym c.is_some.ensures ∙ c.if-is_some.false) c.requires.attached reads
    c.port_of.result c.port_of.ensures e.0 m'.read_faults e.1 (e.2 t) e.3
