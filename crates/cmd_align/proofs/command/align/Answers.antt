use Rattle.std.proofs.Common.{refl}
use Rattle.station_core.specs.Meaning.{Meaning}
use Rattle.cmd_align.proofs.Commands.{Laws}
use Rattle.cmd_align.proofs.WholeRun.{ready, refused, run}
use Rattle.cmd_align.proofs.command.align.Goals as goal

pub align_in-requires : goal.align_in-requires
align_in-requires g c =
    let old : Meaning = g.S.Station.meaning c.args.station.now in
    let mid : Meaning = g.S.Station.meaning c.read_settings.new.station in
    let laws : Laws = record { finds = c.least_place.ensures; stays = c.more_bytes.ensures.stays; tps = c.symbols.ensures.tps; same = c.symbols.ensures.same; alike = c.whole_symbols.ensures } in
    λ k. (
      (refl, tt),
      (c.in-M2k.is, ready c.args.limits.now.packets c.args.settings.now c.args.old_cells.now c.args.new_cells.now old mid mid laws c.requires.fresh c.in-Ok.ensures.asks c.in-Ok.accepted c.in-Ok.ensures.reads),
    )

pub align_in-requires-in-M8k : goal.align_in-requires-in-M8k
align_in-requires-in-M8k g c =
    let old : Meaning = g.S.Station.meaning c.args.station.now in
    let mid : Meaning = g.S.Station.meaning c.read_settings.new.station in
    let laws : Laws = record { finds = c.least_place.ensures; stays = c.more_bytes.ensures.stays; tps = c.symbols.ensures.tps; same = c.symbols.ensures.same; alike = c.whole_symbols.ensures } in
    λ k. (
      (refl, tt),
      (c.in-M8k.is, ready c.args.limits.now.packets c.args.settings.now c.args.old_cells.now c.args.new_cells.now old mid mid laws c.requires.fresh c.in-Ok.ensures.asks c.in-Ok.accepted c.in-Ok.ensures.reads),
    )

pub returns-in-M2k : goal.returns-in-M2k
returns-in-M2k g c =
    let old : Meaning = g.S.Station.meaning c.args.station.now in
    let mid : Meaning = g.S.Station.meaning c.read_settings.new.station in
    let new : Meaning = g.S.Station.meaning c.align_in.new.station in
    let laws : Laws = record { finds = c.least_place.ensures; stays = c.more_bytes.ensures.stays; tps = c.symbols.ensures.tps; same = c.symbols.ensures.same; alike = c.whole_symbols.ensures } in
    run c.args.limits.now.packets c.args.settings.now c.args.old_cells.now c.args.new_cells.now old mid new laws c.requires.fresh c.in-Ok.ensures.asks c.in-Ok.accepted c.in-Ok.ensures.reads c.align_in.result c.align_in.ensures

pub returns-in-M8k : goal.returns-in-M8k
returns-in-M8k g c =
    let old : Meaning = g.S.Station.meaning c.args.station.now in
    let mid : Meaning = g.S.Station.meaning c.read_settings.new.station in
    let new : Meaning = g.S.Station.meaning c.align_in-in-M8k.new.station in
    let laws : Laws = record { finds = c.least_place.ensures; stays = c.more_bytes.ensures.stays; tps = c.symbols.ensures.tps; same = c.symbols.ensures.same; alike = c.whole_symbols.ensures } in
    run c.args.limits.now.packets c.args.settings.now c.args.old_cells.now c.args.new_cells.now old mid new laws c.requires.fresh c.in-Ok.ensures.asks c.in-Ok.accepted c.in-Ok.ensures.reads c.align_in-in-M8k.result c.align_in-in-M8k.ensures

pub returns-in-Err : goal.returns-in-Err
returns-in-Err g c =
    let old : Meaning = g.S.Station.meaning c.args.station.now in
    let mid : Meaning = g.S.Station.meaning c.read_settings.new.station in
    let new : Meaning = g.S.Station.meaning c.refuse.new.station in
    let laws : Laws = record { finds = c.least_place.ensures; stays = c.more_bytes.ensures.stays; tps = c.symbols.ensures.tps; same = c.symbols.ensures.same; alike = c.whole_symbols.ensures } in
    refused c.args.limits.now.packets c.args.settings.now c.args.old_cells.now c.args.new_cells.now old mid new laws c.requires.fresh c.in-Err.ensures.asks c.in-Err.refusal c.in-Err.ensures.reads c.refuse.result c.refuse.ensures.status c.refuse.ensures.text
