use Rattle.station_core.specs.Meaning.{Meaning}
use Rattle.cmd_modulate.proofs.Lines.{closes_late}
use Rattle.cmd_modulate.proofs.steps.finish.Goals as goal

pub returns-in-Err-close-clause-finished : goal.returns-in-Err-close-clause-finished
returns-in-Err-close-clause-finished g c =
    let m : Meaning = g.S.Station.meaning c.args.station.now in
    let m' : Meaning = g.S.Station.meaning c.write_lines.new.station in
    let m'' : Meaning = g.S.Station.meaning c.close.new.self in
    closes_late c.args.two c.args.counts m m' m'' c.in-Ok.ensures.writes c.in-Err-close.ensures.err
