use Rattle.std.proofs.Common.{refl}
use Rattle.station_core.specs.Meaning.{Meaning}
use Rattle.cmd_track.proofs.Commands.{Laws}
use Rattle.cmd_track.proofs.WholeRun.{ready, refused, run}
use Rattle.cmd_track.proofs.command.track.Goals as goal

pub track_in-requires : goal.track_in-requires
track_in-requires g c =
    let old : Meaning = g.S.Station.meaning c.args.station.now in
    let mid : Meaning = g.S.Station.meaning c.read_settings.new.station in
    let e = c.symbols.ensures in
    let f = c.flat_gain_is_tracked.ensures in
    let laws : Laws = record {
      cuts = record { same = e.same; next = e.next; tail = e.tail; ended = e.ended; cells = e.cells; weights = e.weights };
      live = c.live_symbols_stay.ensures;
      weights = c.greater_powers_weigh_more.ensures;
      steady = c.steady_gains_are_exact.ensures;
      restored = f.files;
      begun = f.beginnings;
      within = f.within;
      returned = f.returned;
      clean = f.clean;
    } in
    λ k. (
      (refl, tt),
      (c.in-M2k.is, ready c.args.limits.now.packets c.args.settings.now c.args.old_cells.now c.args.new_cells.now old mid mid laws c.requires.fresh c.in-Ok.ensures.asks c.in-Ok.accepted c.in-Ok.ensures.reads),
    )

pub track_in-requires-in-M8k : goal.track_in-requires-in-M8k
track_in-requires-in-M8k g c =
    let old : Meaning = g.S.Station.meaning c.args.station.now in
    let mid : Meaning = g.S.Station.meaning c.read_settings.new.station in
    let e = c.symbols.ensures in
    let f = c.flat_gain_is_tracked.ensures in
    let laws : Laws = record {
      cuts = record { same = e.same; next = e.next; tail = e.tail; ended = e.ended; cells = e.cells; weights = e.weights };
      live = c.live_symbols_stay.ensures;
      weights = c.greater_powers_weigh_more.ensures;
      steady = c.steady_gains_are_exact.ensures;
      restored = f.files;
      begun = f.beginnings;
      within = f.within;
      returned = f.returned;
      clean = f.clean;
    } in
    λ k. (
      (refl, tt),
      (c.in-M8k.is, ready c.args.limits.now.packets c.args.settings.now c.args.old_cells.now c.args.new_cells.now old mid mid laws c.requires.fresh c.in-Ok.ensures.asks c.in-Ok.accepted c.in-Ok.ensures.reads),
    )

pub returns-in-M2k : goal.returns-in-M2k
returns-in-M2k g c =
    let old : Meaning = g.S.Station.meaning c.args.station.now in
    let mid : Meaning = g.S.Station.meaning c.read_settings.new.station in
    let new : Meaning = g.S.Station.meaning c.track_in.new.station in
    let e = c.symbols.ensures in
    let f = c.flat_gain_is_tracked.ensures in
    let laws : Laws = record {
      cuts = record { same = e.same; next = e.next; tail = e.tail; ended = e.ended; cells = e.cells; weights = e.weights };
      live = c.live_symbols_stay.ensures;
      weights = c.greater_powers_weigh_more.ensures;
      steady = c.steady_gains_are_exact.ensures;
      restored = f.files;
      begun = f.beginnings;
      within = f.within;
      returned = f.returned;
      clean = f.clean;
    } in
    run c.args.limits.now.packets c.args.settings.now c.args.old_cells.now c.args.new_cells.now old mid new laws c.requires.fresh c.in-Ok.ensures.asks c.in-Ok.accepted c.in-Ok.ensures.reads c.track_in.result c.track_in.ensures

pub returns-in-M8k : goal.returns-in-M8k
returns-in-M8k g c =
    let old : Meaning = g.S.Station.meaning c.args.station.now in
    let mid : Meaning = g.S.Station.meaning c.read_settings.new.station in
    let new : Meaning = g.S.Station.meaning c.track_in-in-M8k.new.station in
    let e = c.symbols.ensures in
    let f = c.flat_gain_is_tracked.ensures in
    let laws : Laws = record {
      cuts = record { same = e.same; next = e.next; tail = e.tail; ended = e.ended; cells = e.cells; weights = e.weights };
      live = c.live_symbols_stay.ensures;
      weights = c.greater_powers_weigh_more.ensures;
      steady = c.steady_gains_are_exact.ensures;
      restored = f.files;
      begun = f.beginnings;
      within = f.within;
      returned = f.returned;
      clean = f.clean;
    } in
    run c.args.limits.now.packets c.args.settings.now c.args.old_cells.now c.args.new_cells.now old mid new laws c.requires.fresh c.in-Ok.ensures.asks c.in-Ok.accepted c.in-Ok.ensures.reads c.track_in-in-M8k.result c.track_in-in-M8k.ensures

pub returns-in-Err : goal.returns-in-Err
returns-in-Err g c =
    let old : Meaning = g.S.Station.meaning c.args.station.now in
    let mid : Meaning = g.S.Station.meaning c.read_settings.new.station in
    let new : Meaning = g.S.Station.meaning c.refuse.new.station in
    let e = c.symbols.ensures in
    let f = c.flat_gain_is_tracked.ensures in
    let laws : Laws = record {
      cuts = record { same = e.same; next = e.next; tail = e.tail; ended = e.ended; cells = e.cells; weights = e.weights };
      live = c.live_symbols_stay.ensures;
      weights = c.greater_powers_weigh_more.ensures;
      steady = c.steady_gains_are_exact.ensures;
      restored = f.files;
      begun = f.beginnings;
      within = f.within;
      returned = f.returned;
      clean = f.clean;
    } in
    refused c.args.limits.now.packets c.args.settings.now c.args.old_cells.now c.args.new_cells.now old mid new laws c.requires.fresh c.in-Err.ensures.asks c.in-Err.refusal c.in-Err.ensures.reads c.refuse.result c.refuse.ensures.status c.refuse.ensures.text
