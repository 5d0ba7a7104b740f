use Rattle.std.proofs.Common.{List, ℕ, Option}
use Rattle.std.specs.Option.{option_copied}
use Rattle.station_core.specs.Meaning.{Meaning}
use Rattle.cmd_modulate.proofs.WholeRun.{run_of, refused}
use Rattle.cmd_modulate.proofs.command.modulate.Goals as goal

pub returns-in-M2k : goal.returns-in-M2k
returns-in-M2k g c =
    let old : Meaning = g.S.Station.meaning c.args.station.now in
    let mid : Meaning = g.S.Station.meaning c.read_fitting.new.station in
    let new : Meaning = g.S.Station.meaning c.modulate_in.new.station in
    let lp : Option (List ℕ) = option_copied c.args.lp in
    run_of c.args.limits.now.packets c.args.settings.now c.args.hp.now lp c.args.cells.now old mid new c.requires.fresh c.in-Ok.ensures.asks
    c.in-Ok.accepted c.in-Ok.ensures.accepts c.modulate_in.result c.modulate_in.ensures

pub returns-in-M8k : goal.returns-in-M8k
returns-in-M8k g c =
    let old : Meaning = g.S.Station.meaning c.args.station.now in
    let mid : Meaning = g.S.Station.meaning c.read_fitting.new.station in
    let new : Meaning = g.S.Station.meaning c.modulate_in-in-M8k.new.station in
    let lp : Option (List ℕ) = option_copied c.args.lp in
    run_of c.args.limits.now.packets c.args.settings.now c.args.hp.now lp c.args.cells.now old mid new c.requires.fresh c.in-Ok.ensures.asks
    c.in-Ok.accepted c.in-Ok.ensures.accepts c.modulate_in-in-M8k.result c.modulate_in-in-M8k.ensures

pub returns-in-Err : goal.returns-in-Err
returns-in-Err g c =
    let old : Meaning = g.S.Station.meaning c.args.station.now in
    let mid : Meaning = g.S.Station.meaning c.read_fitting.new.station in
    let new : Meaning = g.S.Station.meaning c.refuse.new.station in
    let lp : Option (List ℕ) = option_copied c.args.lp in
    refused c.args.limits.now.packets c.args.settings.now c.args.hp.now lp c.args.cells.now old mid new c.requires.fresh c.in-Err.ensures.asks
    c.in-Err.refusal c.in-Err.ensures.accepts c.refuse.result c.refuse.ensures.status c.refuse.ensures.text
