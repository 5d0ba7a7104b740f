use Rattle.std.proofs.Common.{List, ℕ, Option, refl}
use Rattle.std.specs.Option.{option_copied}
use Rattle.station_core.specs.Meaning.{Meaning}
use Rattle.cmd_receive.specs.OwnLaws.{ReceiveLaws}
use Rattle.cmd_receive.proofs.OfKinds.{plain_laws}
use Rattle.cmd_receive.proofs.Laws.{Laws, own_laws}
use Rattle.cmd_receive.proofs.WholeRun.{ready, refused, run}
use Rattle.cmd_receive.proofs.command.receive.Goals as goal

pub returns-in-M2k : goal.returns-in-M2k
returns-in-M2k g c =
    let old : Meaning = g.S.Station.meaning c.args.station.now in
    let mid : Meaning = g.S.Station.meaning c.read_fitting.new.station in
    let new : Meaning = g.S.Station.meaning c.receive_in.new.station in
    let lp : Option (List ℕ) = option_copied c.args.files.lp in
    let laws : Laws = record {
      receptions = plain_laws c.existence.ensures.live c.existence.ensures.last c.receptions.ensures.live c.receptions.ensures.last c.beginnings.ensures.live c.beginnings.ensures.last c.beginnings.ensures.whole c.symbols.ensures.tail c.nothing.ensures.live c.events.ensures.none;
      begins_least = c.shared_begins_least.ensures.law;
      noise = c.noise.ensures.packets;
      clean = c.own_cells.ensures.packets;
      packets_then_nulls = c.packets_then_nulls.ensures;
      live = c.workers.ensures.live;
      final = c.workers.ensures.last;
      lines = c.workers.ensures.lines;
    } in
    run laws.receptions ReceiveLaws (own_laws laws) c.args.limits.now.packets c.args.settings.now c.args.files.cells.now c.args.files.hp.now lp old mid new c.requires.fresh c.in-Ok.ensures.asks
    c.in-Ok.accepted c.in-Ok.ensures.accepts c.receive_in.result c.receive_in.ensures

pub returns-in-M8k : goal.returns-in-M8k
returns-in-M8k g c =
    let old : Meaning = g.S.Station.meaning c.args.station.now in
    let mid : Meaning = g.S.Station.meaning c.read_fitting.new.station in
    let new : Meaning = g.S.Station.meaning c.receive_in-in-M8k.new.station in
    let lp : Option (List ℕ) = option_copied c.args.files.lp in
    let laws : Laws = record {
      receptions = plain_laws c.existence.ensures.live c.existence.ensures.last c.receptions.ensures.live c.receptions.ensures.last c.beginnings.ensures.live c.beginnings.ensures.last c.beginnings.ensures.whole c.symbols.ensures.tail c.nothing.ensures.live c.events.ensures.none;
      begins_least = c.shared_begins_least.ensures.law;
      noise = c.noise.ensures.packets;
      clean = c.own_cells.ensures.packets;
      packets_then_nulls = c.packets_then_nulls.ensures;
      live = c.workers.ensures.live;
      final = c.workers.ensures.last;
      lines = c.workers.ensures.lines;
    } in
    run laws.receptions ReceiveLaws (own_laws laws) c.args.limits.now.packets c.args.settings.now c.args.files.cells.now c.args.files.hp.now lp old mid new c.requires.fresh c.in-Ok.ensures.asks
    c.in-Ok.accepted c.in-Ok.ensures.accepts c.receive_in-in-M8k.result c.receive_in-in-M8k.ensures

pub returns-in-Err : goal.returns-in-Err
returns-in-Err g c =
    let old : Meaning = g.S.Station.meaning c.args.station.now in
    let mid : Meaning = g.S.Station.meaning c.read_fitting.new.station in
    let new : Meaning = g.S.Station.meaning c.refuse.new.station in
    let lp : Option (List ℕ) = option_copied c.args.files.lp in
    let laws : Laws = record {
      receptions = plain_laws c.existence.ensures.live c.existence.ensures.last c.receptions.ensures.live c.receptions.ensures.last c.beginnings.ensures.live c.beginnings.ensures.last c.beginnings.ensures.whole c.symbols.ensures.tail c.nothing.ensures.live c.events.ensures.none;
      begins_least = c.shared_begins_least.ensures.law;
      noise = c.noise.ensures.packets;
      clean = c.own_cells.ensures.packets;
      packets_then_nulls = c.packets_then_nulls.ensures;
      live = c.workers.ensures.live;
      final = c.workers.ensures.last;
      lines = c.workers.ensures.lines;
    } in
    refused laws.receptions ReceiveLaws (own_laws laws) c.args.limits.now.packets c.args.settings.now c.args.files.cells.now c.args.files.hp.now lp old mid new c.requires.fresh c.in-Err.ensures.asks
    c.in-Err.refusal c.in-Err.ensures.accepts c.refuse.result c.refuse.ensures.status c.refuse.ensures.text

pub receive_in-requires : goal.receive_in-requires
receive_in-requires g c =
    let old : Meaning = g.S.Station.meaning c.args.station.now in
    let mid : Meaning = g.S.Station.meaning c.read_fitting.new.station in
    let lp : Option (List ℕ) = option_copied c.args.files.lp in
    let laws : Laws = record {
      receptions = plain_laws c.existence.ensures.live c.existence.ensures.last c.receptions.ensures.live c.receptions.ensures.last c.beginnings.ensures.live c.beginnings.ensures.last c.beginnings.ensures.whole c.symbols.ensures.tail c.nothing.ensures.live c.events.ensures.none;
      begins_least = c.shared_begins_least.ensures.law;
      noise = c.noise.ensures.packets;
      clean = c.own_cells.ensures.packets;
      packets_then_nulls = c.packets_then_nulls.ensures;
      live = c.workers.ensures.live;
      final = c.workers.ensures.last;
      lines = c.workers.ensures.lines;
    } in
    λ k. (
      record { shared = c.type_bounds.sync-R.shared },
      (
        record { shared = c.type_bounds.sync-G.shared },
        (
          (refl, tt),
          (c.in-M2k.is, ready laws.receptions ReceiveLaws (own_laws laws) c.args.limits.now.packets c.args.settings.now c.args.files.cells.now c.args.files.hp.now lp old mid mid c.requires.fresh c.in-Ok.ensures.asks c.in-Ok.accepted c.in-Ok.ensures.accepts),
        ),
      ),
    )

pub receive_in-requires-in-M8k : goal.receive_in-requires-in-M8k
receive_in-requires-in-M8k g c =
    let old : Meaning = g.S.Station.meaning c.args.station.now in
    let mid : Meaning = g.S.Station.meaning c.read_fitting.new.station in
    let lp : Option (List ℕ) = option_copied c.args.files.lp in
    let laws : Laws = record {
      receptions = plain_laws c.existence.ensures.live c.existence.ensures.last c.receptions.ensures.live c.receptions.ensures.last c.beginnings.ensures.live c.beginnings.ensures.last c.beginnings.ensures.whole c.symbols.ensures.tail c.nothing.ensures.live c.events.ensures.none;
      begins_least = c.shared_begins_least.ensures.law;
      noise = c.noise.ensures.packets;
      clean = c.own_cells.ensures.packets;
      packets_then_nulls = c.packets_then_nulls.ensures;
      live = c.workers.ensures.live;
      final = c.workers.ensures.last;
      lines = c.workers.ensures.lines;
    } in
    λ k. (
      record { shared = c.type_bounds.sync-R.shared },
      (
        record { shared = c.type_bounds.sync-G.shared },
        (
          (refl, tt),
          (c.in-M8k.is, ready laws.receptions ReceiveLaws (own_laws laws) c.args.limits.now.packets c.args.settings.now c.args.files.cells.now c.args.files.hp.now lp old mid mid c.requires.fresh c.in-Ok.ensures.asks c.in-Ok.accepted c.in-Ok.ensures.accepts),
        ),
      ),
    )
