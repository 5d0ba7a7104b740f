use Rattle.station_core.specs.Meaning.{Meaning}
use Rattle.cmd_base.proofs.SettingsAnswer.{answered}
use Rattle.cmd_base.proofs.settings_step.read_into.Goals as goal

pub returns-in-Ok-clause-reads : goal.returns-in-Ok-clause-reads
returns-in-Ok-clause-reads g c =
    let old : Meaning = g.S.Station.meaning c.args.station.now in
    let new : Meaning = g.S.Station.meaning c.read_bytes.new.station in
    let e = c.in-Ok.ensures in
    answered c.args.name.now old new c.in-Ok.filled c.read_bytes.new.bytes e.faultless e.asked e.attached e.left e.bytes
    c.check.result c.check.ensures.kind c.check.ensures.checks
