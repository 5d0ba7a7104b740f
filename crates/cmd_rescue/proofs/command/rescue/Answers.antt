use Rattle.std.proofs.Common.{List, ℕ, Option, refl}
use Rattle.std.specs.Option.{option_copied}
use Rattle.station_core.specs.Meaning.{Meaning}
use Rattle.cmd_receive.proofs.WholeRun.{ready, refused, run}
use Rattle.cmd_rescue.specs.OwnLaws.{RescueLaws}
use Rattle.cmd_rescue.proofs.Laws.{Laws, own_laws}
use Rattle.cmd_rescue.proofs.Rescuing.{rescue_laws}
use Rattle.cmd_rescue.proofs.command.rescue.Goals as goal

pub returns-in-M2k : goal.returns-in-M2k
returns-in-M2k g c =
    let old : Meaning = g.S.Station.meaning c.args.station.now in
    let mid : Meaning = g.S.Station.meaning c.read_fitting.new.station in
    let new : Meaning = g.S.Station.meaning c.rescue_in.new.station in
    let lp : Option (List ℕ) = option_copied c.args.files.lp in
    let laws : Laws = record {
      rescues = rescue_laws c.existence.ensures.so_far c.existence.ensures.at_end c.receptions.ensures.so_far c.receptions.ensures.at_end c.beginnings.ensures.so_far c.beginnings.ensures.at_end c.beginnings.ensures.whole c.symbols.ensures.tail c.nothing.ensures.so_far c.events.ensures.none;
      so_far = c.workers.ensures.so_far;
      at_end = c.workers.ensures.at_end;
      lines = c.workers.ensures.lines;
    } in
    run laws.rescues RescueLaws (own_laws laws) c.args.limits.now.packets c.args.settings.now c.args.files.cells.now c.args.files.hp.now lp old mid new c.requires.fresh c.in-Ok.ensures.asks
    c.in-Ok.accepted c.in-Ok.ensures.accepts c.rescue_in.result c.rescue_in.ensures

pub returns-in-M8k : goal.returns-in-M8k
returns-in-M8k g c =
    let old : Meaning = g.S.Station.meaning c.args.station.now in
    let mid : Meaning = g.S.Station.meaning c.read_fitting.new.station in
    let new : Meaning = g.S.Station.meaning c.rescue_in-in-M8k.new.station in
    let lp : Option (List ℕ) = option_copied c.args.files.lp in
    let laws : Laws = record {
      rescues = rescue_laws c.existence.ensures.so_far c.existence.ensures.at_end c.receptions.ensures.so_far c.receptions.ensures.at_end c.beginnings.ensures.so_far c.beginnings.ensures.at_end c.beginnings.ensures.whole c.symbols.ensures.tail c.nothing.ensures.so_far c.events.ensures.none;
      so_far = c.workers.ensures.so_far;
      at_end = c.workers.ensures.at_end;
      lines = c.workers.ensures.lines;
    } in
    run laws.rescues RescueLaws (own_laws laws) c.args.limits.now.packets c.args.settings.now c.args.files.cells.now c.args.files.hp.now lp old mid new c.requires.fresh c.in-Ok.ensures.asks
    c.in-Ok.accepted c.in-Ok.ensures.accepts c.rescue_in-in-M8k.result c.rescue_in-in-M8k.ensures

pub returns-in-Err : goal.returns-in-Err
returns-in-Err g c =
    let old : Meaning = g.S.Station.meaning c.args.station.now in
    let mid : Meaning = g.S.Station.meaning c.read_fitting.new.station in
    let new : Meaning = g.S.Station.meaning c.refuse.new.station in
    let lp : Option (List ℕ) = option_copied c.args.files.lp in
    let laws : Laws = record {
      rescues = rescue_laws c.existence.ensures.so_far c.existence.ensures.at_end c.receptions.ensures.so_far c.receptions.ensures.at_end c.beginnings.ensures.so_far c.beginnings.ensures.at_end c.beginnings.ensures.whole c.symbols.ensures.tail c.nothing.ensures.so_far c.events.ensures.none;
      so_far = c.workers.ensures.so_far;
      at_end = c.workers.ensures.at_end;
      lines = c.workers.ensures.lines;
    } in
    refused laws.rescues RescueLaws (own_laws laws) c.args.limits.now.packets c.args.settings.now c.args.files.cells.now c.args.files.hp.now lp old mid new c.requires.fresh c.in-Err.ensures.asks
    c.in-Err.refusal c.in-Err.ensures.accepts c.refuse.result c.refuse.ensures.status c.refuse.ensures.text

pub rescue_in-requires : goal.rescue_in-requires
rescue_in-requires g c =
    let old : Meaning = g.S.Station.meaning c.args.station.now in
    let mid : Meaning = g.S.Station.meaning c.read_fitting.new.station in
    let lp : Option (List ℕ) = option_copied c.args.files.lp in
    let laws : Laws = record {
      rescues = rescue_laws c.existence.ensures.so_far c.existence.ensures.at_end c.receptions.ensures.so_far c.receptions.ensures.at_end c.beginnings.ensures.so_far c.beginnings.ensures.at_end c.beginnings.ensures.whole c.symbols.ensures.tail c.nothing.ensures.so_far c.events.ensures.none;
      so_far = c.workers.ensures.so_far;
      at_end = c.workers.ensures.at_end;
      lines = c.workers.ensures.lines;
    } in
    λ k. (
      record { shared = c.type_bounds.sync-R.shared },
      (
        (refl, tt),
        (c.in-M2k.is, ready laws.rescues RescueLaws (own_laws laws) c.args.limits.now.packets c.args.settings.now c.args.files.cells.now c.args.files.hp.now lp old mid mid c.requires.fresh c.in-Ok.ensures.asks c.in-Ok.accepted c.in-Ok.ensures.accepts),
      ),
    )

pub rescue_in-requires-in-M8k : goal.rescue_in-requires-in-M8k
rescue_in-requires-in-M8k g c =
    let old : Meaning = g.S.Station.meaning c.args.station.now in
    let mid : Meaning = g.S.Station.meaning c.read_fitting.new.station in
    let lp : Option (List ℕ) = option_copied c.args.files.lp in
    let laws : Laws = record {
      rescues = rescue_laws c.existence.ensures.so_far c.existence.ensures.at_end c.receptions.ensures.so_far c.receptions.ensures.at_end c.beginnings.ensures.so_far c.beginnings.ensures.at_end c.beginnings.ensures.whole c.symbols.ensures.tail c.nothing.ensures.so_far c.events.ensures.none;
      so_far = c.workers.ensures.so_far;
      at_end = c.workers.ensures.at_end;
      lines = c.workers.ensures.lines;
    } in
    λ k. (
      record { shared = c.type_bounds.sync-R.shared },
      (
        (refl, tt),
        (c.in-M8k.is, ready laws.rescues RescueLaws (own_laws laws) c.args.limits.now.packets c.args.settings.now c.args.files.cells.now c.args.files.hp.now lp old mid mid c.requires.fresh c.in-Ok.ensures.asks c.in-Ok.accepted c.in-Ok.ensures.accepts),
      ),
    )
