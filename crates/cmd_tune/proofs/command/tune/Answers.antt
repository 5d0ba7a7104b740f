use Rattle.std.proofs.Common.{List, ℕ, Option, refl}
use Rattle.std.specs.Option.{option_copied}
use Rattle.station_core.specs.Meaning.{Meaning}
use Rattle.cmd_receive.proofs.OfKinds.{plain_laws}
use Rattle.cmd_tune.proofs.Coming.{Laws}
use Rattle.cmd_tune.proofs.WholeRun.{ready, refused, run}
use Rattle.cmd_tune.proofs.command.tune.Goals as goal

pub tune_in_mode-requires : goal.tune_in_mode-requires
tune_in_mode-requires g c =
    let old : Meaning = g.S.Station.meaning c.args.station.now in
    let mid : Meaning = g.S.Station.meaning c.read_settings.new.station in
    let lp : Option (List ℕ) = option_copied c.args.files.lp in
    let laws : Laws = record {
      receptions = plain_laws c.existence.ensures.live c.existence.ensures.last c.receptions.ensures.live c.receptions.ensures.last c.beginnings.ensures.live c.beginnings.ensures.last c.beginnings.ensures.whole c.symbols.ensures.tail c.nothing.ensures.live c.events.ensures.none;
      one = c.one_found.ensures;
      least = c.least_place.ensures;
      stays = c.more_bytes.ensures.stays;
      tps = c.symbols.ensures.tps;
      live = c.workers.ensures.live;
      final = c.workers.ensures.last;
      lines = c.workers.ensures.lines;
    } in
    λ k. (
      record { shared = c.type_bounds.sync-R.shared },
      (
        record { shared = c.type_bounds.sync-G.shared },
        (
          (refl, tt),
          (c.in-M2k.is, ready c.args.limits.now.packets c.args.settings.now c.args.files.cells.now c.args.files.hp.now lp old mid mid laws c.requires.fresh c.in-Ok.ensures.asks c.in-Ok.accepted c.in-Ok.ensures.reads),
        ),
      ),
    )

pub tune_in_mode-requires-in-M8k : goal.tune_in_mode-requires-in-M8k
tune_in_mode-requires-in-M8k g c =
    let old : Meaning = g.S.Station.meaning c.args.station.now in
    let mid : Meaning = g.S.Station.meaning c.read_settings.new.station in
    let lp : Option (List ℕ) = option_copied c.args.files.lp in
    let laws : Laws = record {
      receptions = plain_laws c.existence.ensures.live c.existence.ensures.last c.receptions.ensures.live c.receptions.ensures.last c.beginnings.ensures.live c.beginnings.ensures.last c.beginnings.ensures.whole c.symbols.ensures.tail c.nothing.ensures.live c.events.ensures.none;
      one = c.one_found.ensures;
      least = c.least_place.ensures;
      stays = c.more_bytes.ensures.stays;
      tps = c.symbols.ensures.tps;
      live = c.workers.ensures.live;
      final = c.workers.ensures.last;
      lines = c.workers.ensures.lines;
    } in
    λ k. (
      record { shared = c.type_bounds.sync-R.shared },
      (
        record { shared = c.type_bounds.sync-G.shared },
        (
          (refl, tt),
          (c.in-M8k.is, ready c.args.limits.now.packets c.args.settings.now c.args.files.cells.now c.args.files.hp.now lp old mid mid laws c.requires.fresh c.in-Ok.ensures.asks c.in-Ok.accepted c.in-Ok.ensures.reads),
        ),
      ),
    )

pub returns-in-M2k : goal.returns-in-M2k
returns-in-M2k g c =
    let old : Meaning = g.S.Station.meaning c.args.station.now in
    let mid : Meaning = g.S.Station.meaning c.read_settings.new.station in
    let new : Meaning = g.S.Station.meaning c.tune_in_mode.new.station in
    let lp : Option (List ℕ) = option_copied c.args.files.lp in
    let laws : Laws = record {
      receptions = plain_laws c.existence.ensures.live c.existence.ensures.last c.receptions.ensures.live c.receptions.ensures.last c.beginnings.ensures.live c.beginnings.ensures.last c.beginnings.ensures.whole c.symbols.ensures.tail c.nothing.ensures.live c.events.ensures.none;
      one = c.one_found.ensures;
      least = c.least_place.ensures;
      stays = c.more_bytes.ensures.stays;
      tps = c.symbols.ensures.tps;
      live = c.workers.ensures.live;
      final = c.workers.ensures.last;
      lines = c.workers.ensures.lines;
    } in
    run c.args.limits.now.packets c.args.settings.now c.args.files.cells.now c.args.files.hp.now lp old mid new laws c.requires.fresh c.in-Ok.ensures.asks
    c.in-Ok.accepted c.in-Ok.ensures.reads c.tune_in_mode.result c.tune_in_mode.ensures

pub returns-in-M8k : goal.returns-in-M8k
returns-in-M8k g c =
    let old : Meaning = g.S.Station.meaning c.args.station.now in
    let mid : Meaning = g.S.Station.meaning c.read_settings.new.station in
    let new : Meaning = g.S.Station.meaning c.tune_in_mode-in-M8k.new.station in
    let lp : Option (List ℕ) = option_copied c.args.files.lp in
    let laws : Laws = record {
      receptions = plain_laws c.existence.ensures.live c.existence.ensures.last c.receptions.ensures.live c.receptions.ensures.last c.beginnings.ensures.live c.beginnings.ensures.last c.beginnings.ensures.whole c.symbols.ensures.tail c.nothing.ensures.live c.events.ensures.none;
      one = c.one_found.ensures;
      least = c.least_place.ensures;
      stays = c.more_bytes.ensures.stays;
      tps = c.symbols.ensures.tps;
      live = c.workers.ensures.live;
      final = c.workers.ensures.last;
      lines = c.workers.ensures.lines;
    } in
    run c.args.limits.now.packets c.args.settings.now c.args.files.cells.now c.args.files.hp.now lp old mid new laws c.requires.fresh c.in-Ok.ensures.asks
    c.in-Ok.accepted c.in-Ok.ensures.reads c.tune_in_mode-in-M8k.result c.tune_in_mode-in-M8k.ensures

pub returns-in-Err : goal.returns-in-Err
returns-in-Err g c =
    let old : Meaning = g.S.Station.meaning c.args.station.now in
    let mid : Meaning = g.S.Station.meaning c.read_settings.new.station in
    let new : Meaning = g.S.Station.meaning c.refuse.new.station in
    let lp : Option (List ℕ) = option_copied c.args.files.lp in
    let laws : Laws = record {
      receptions = plain_laws c.existence.ensures.live c.existence.ensures.last c.receptions.ensures.live c.receptions.ensures.last c.beginnings.ensures.live c.beginnings.ensures.last c.beginnings.ensures.whole c.symbols.ensures.tail c.nothing.ensures.live c.events.ensures.none;
      one = c.one_found.ensures;
      least = c.least_place.ensures;
      stays = c.more_bytes.ensures.stays;
      tps = c.symbols.ensures.tps;
      live = c.workers.ensures.live;
      final = c.workers.ensures.last;
      lines = c.workers.ensures.lines;
    } in
    refused c.args.limits.now.packets c.args.settings.now c.args.files.cells.now c.args.files.hp.now lp old mid new laws c.requires.fresh c.in-Err.ensures.asks
    c.in-Err.refusal c.in-Err.ensures.reads c.refuse.result c.refuse.ensures.status c.refuse.ensures.text
