use Rattle.std.proofs.Common.{refl}
use Rattle.station_core.specs.Meaning.{Meaning}
use Rattle.cmd_measure.proofs.Commands.{Laws}
use Rattle.cmd_measure.proofs.WholeRun.{ready, refused, run}
use Rattle.cmd_measure.proofs.command.measure.Goals as goal

pub measure_in-requires : goal.measure_in-requires
measure_in-requires g c =
    let old : Meaning = g.S.Station.meaning c.args.station.now in
    let mid : Meaning = g.S.Station.meaning c.read_settings.new.station in
    let laws : Laws = record {
      same = c.symbols.ensures.same;
      some_live = c.existence.ensures.live;
      some_final = c.existence.ensures.last;
      stay = c.sums_stay.ensures.law;
      once = c.one_sums.ensures.law;
      live = c.beginnings.ensures.live;
      last = c.beginnings.ensures.last;
      sums = c.lines_add_up.ensures.sums;
      closing = c.lines_add_up.ensures.closing;
      sent = c.decided_cells_are_sent.ensures.cells;
      error = c.decided_cells_are_sent.ensures.error;
      own = c.transmissions_are_measured.ensures.own_lines;
      noise = c.transmissions_are_measured.ensures.near_lines;
    } in
    λ k. (
      record { shared = c.type_bounds.sync-R.shared },
      (
        record { shared = c.type_bounds.sync-G.shared },
        (
          (refl, tt),
          (c.in-M2k.is, ready c.args.limits.now.packets c.args.settings.now c.args.cells.now old mid mid laws c.requires.fresh c.in-Ok.ensures.asks c.in-Ok.accepted c.in-Ok.ensures.reads),
        ),
      ),
    )

pub returns-in-M2k : goal.returns-in-M2k
returns-in-M2k g c =
    let old : Meaning = g.S.Station.meaning c.args.station.now in
    let mid : Meaning = g.S.Station.meaning c.read_settings.new.station in
    let new : Meaning = g.S.Station.meaning c.measure_in.new.station in
    let laws : Laws = record {
      same = c.symbols.ensures.same;
      some_live = c.existence.ensures.live;
      some_final = c.existence.ensures.last;
      stay = c.sums_stay.ensures.law;
      once = c.one_sums.ensures.law;
      live = c.beginnings.ensures.live;
      last = c.beginnings.ensures.last;
      sums = c.lines_add_up.ensures.sums;
      closing = c.lines_add_up.ensures.closing;
      sent = c.decided_cells_are_sent.ensures.cells;
      error = c.decided_cells_are_sent.ensures.error;
      own = c.transmissions_are_measured.ensures.own_lines;
      noise = c.transmissions_are_measured.ensures.near_lines;
    } in
    run c.args.limits.now.packets c.args.settings.now c.args.cells.now old mid new laws c.requires.fresh c.in-Ok.ensures.asks c.in-Ok.accepted c.in-Ok.ensures.reads c.measure_in.result c.measure_in.ensures

pub measure_in-requires-in-M8k : goal.measure_in-requires-in-M8k
measure_in-requires-in-M8k g c =
    let old : Meaning = g.S.Station.meaning c.args.station.now in
    let mid : Meaning = g.S.Station.meaning c.read_settings.new.station in
    let laws : Laws = record {
      same = c.symbols.ensures.same;
      some_live = c.existence.ensures.live;
      some_final = c.existence.ensures.last;
      stay = c.sums_stay.ensures.law;
      once = c.one_sums.ensures.law;
      live = c.beginnings.ensures.live;
      last = c.beginnings.ensures.last;
      sums = c.lines_add_up.ensures.sums;
      closing = c.lines_add_up.ensures.closing;
      sent = c.decided_cells_are_sent.ensures.cells;
      error = c.decided_cells_are_sent.ensures.error;
      own = c.transmissions_are_measured.ensures.own_lines;
      noise = c.transmissions_are_measured.ensures.near_lines;
    } in
    λ k. (
      record { shared = c.type_bounds.sync-R.shared },
      (
        record { shared = c.type_bounds.sync-G.shared },
        (
          (refl, tt),
          (c.in-M8k.is, ready c.args.limits.now.packets c.args.settings.now c.args.cells.now old mid mid laws c.requires.fresh c.in-Ok.ensures.asks c.in-Ok.accepted c.in-Ok.ensures.reads),
        ),
      ),
    )

pub returns-in-M8k : goal.returns-in-M8k
returns-in-M8k g c =
    let old : Meaning = g.S.Station.meaning c.args.station.now in
    let mid : Meaning = g.S.Station.meaning c.read_settings.new.station in
    let new : Meaning = g.S.Station.meaning c.measure_in-in-M8k.new.station in
    let laws : Laws = record {
      same = c.symbols.ensures.same;
      some_live = c.existence.ensures.live;
      some_final = c.existence.ensures.last;
      stay = c.sums_stay.ensures.law;
      once = c.one_sums.ensures.law;
      live = c.beginnings.ensures.live;
      last = c.beginnings.ensures.last;
      sums = c.lines_add_up.ensures.sums;
      closing = c.lines_add_up.ensures.closing;
      sent = c.decided_cells_are_sent.ensures.cells;
      error = c.decided_cells_are_sent.ensures.error;
      own = c.transmissions_are_measured.ensures.own_lines;
      noise = c.transmissions_are_measured.ensures.near_lines;
    } in
    run c.args.limits.now.packets c.args.settings.now c.args.cells.now old mid new laws c.requires.fresh c.in-Ok.ensures.asks c.in-Ok.accepted c.in-Ok.ensures.reads c.measure_in-in-M8k.result c.measure_in-in-M8k.ensures

pub returns-in-Err : goal.returns-in-Err
returns-in-Err g c =
    let old : Meaning = g.S.Station.meaning c.args.station.now in
    let mid : Meaning = g.S.Station.meaning c.read_settings.new.station in
    let new : Meaning = g.S.Station.meaning c.refuse.new.station in
    let laws : Laws = record {
      same = c.symbols.ensures.same;
      some_live = c.existence.ensures.live;
      some_final = c.existence.ensures.last;
      stay = c.sums_stay.ensures.law;
      once = c.one_sums.ensures.law;
      live = c.beginnings.ensures.live;
      last = c.beginnings.ensures.last;
      sums = c.lines_add_up.ensures.sums;
      closing = c.lines_add_up.ensures.closing;
      sent = c.decided_cells_are_sent.ensures.cells;
      error = c.decided_cells_are_sent.ensures.error;
      own = c.transmissions_are_measured.ensures.own_lines;
      noise = c.transmissions_are_measured.ensures.near_lines;
    } in
    refused c.args.limits.now.packets c.args.settings.now c.args.cells.now old mid new laws c.requires.fresh c.in-Err.ensures.asks c.in-Err.refusal c.in-Err.ensures.reads c.refuse.result c.refuse.ensures.status c.refuse.ensures.text
