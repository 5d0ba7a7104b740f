use Rattle.std.proofs.Common.{sym, subst}
use Rattle.station_core.specs.Meaning.{Meaning}
use Rattle.mode_set.specs.declared.modes.Mode.{Mode}
use Rattle.cmd_convert.specs.Runs.{RunsOrLacks}
use Rattle.cmd_convert.proofs.WholeRun.{refused, run}
use Rattle.cmd_convert.specs.Equalising.{equalisation}
use Rattle.cmd_base.specs.Command.{Files}
use Rattle.cmd_base.specs.StatedSettings.{settings_of}
use Rattle.cmd_convert.specs.EqualiseCommand.{statuses}
use Rattle.cmd_convert.specs.EqualiseLaws.{EqualiseLaws}
use Rattle.cmd_convert.proofs.EqualiseLaws.{own_laws}
use Rattle.cmd_convert.proofs.EqualiseSound.{sound}
use Rattle.cmd_convert.proofs.equalise_command.equalise.Goals as goal

pub returns-in-M2k : goal.returns-in-M2k
returns-in-M2k g c =
    let old : Meaning = g.S.Station.meaning c.args.station.now in
    let mid : Meaning = g.S.Station.meaning c.read_settings.new.station in
    let own = λ (file : Files). own_laws (record { restored = c.files_come_back.ensures.restored; within = c.files_come_back.ensures.within; returned = c.files_come_back.ensures.returned }) (settings_of (file c.args.settings.now)) (file c.args.old_cells.now) in
    let new : Meaning = g.S.Station.meaning c.equalise_in.new.station in
    run equalisation statuses sound (λ file. EqualiseLaws (settings_of (file c.args.settings.now)) (file c.args.old_cells.now)) c.args.limits.now.packets c.args.settings.now c.args.old_cells.now c.args.new_cells.now old mid new own c.requires.fresh c.in-Ok.ensures.asks c.in-Ok.accepted c.in-Ok.ensures.reads
    c.equalise_in.result (subst (λ (m : Mode). RunsOrLacks (equalisation m) c.in-Ok.accepted.max_symbols c.args.old_cells.now c.args.new_cells.now mid new c.equalise_in.result) (sym c.in-M2k.is) c.equalise_in.ensures)

pub returns-in-M8k : goal.returns-in-M8k
returns-in-M8k g c =
    let old : Meaning = g.S.Station.meaning c.args.station.now in
    let mid : Meaning = g.S.Station.meaning c.read_settings.new.station in
    let own = λ (file : Files). own_laws (record { restored = c.files_come_back.ensures.restored; within = c.files_come_back.ensures.within; returned = c.files_come_back.ensures.returned }) (settings_of (file c.args.settings.now)) (file c.args.old_cells.now) in
    let new : Meaning = g.S.Station.meaning c.equalise_in-in-M8k.new.station in
    run equalisation statuses sound (λ file. EqualiseLaws (settings_of (file c.args.settings.now)) (file c.args.old_cells.now)) c.args.limits.now.packets c.args.settings.now c.args.old_cells.now c.args.new_cells.now old mid new own c.requires.fresh c.in-Ok.ensures.asks c.in-Ok.accepted c.in-Ok.ensures.reads
    c.equalise_in-in-M8k.result (subst (λ (m : Mode). RunsOrLacks (equalisation m) c.in-Ok.accepted.max_symbols c.args.old_cells.now c.args.new_cells.now mid new c.equalise_in-in-M8k.result) (sym c.in-M8k.is) c.equalise_in-in-M8k.ensures)

pub returns-in-Err : goal.returns-in-Err
returns-in-Err g c =
    let old : Meaning = g.S.Station.meaning c.args.station.now in
    let mid : Meaning = g.S.Station.meaning c.read_settings.new.station in
    let own = λ (file : Files). own_laws (record { restored = c.files_come_back.ensures.restored; within = c.files_come_back.ensures.within; returned = c.files_come_back.ensures.returned }) (settings_of (file c.args.settings.now)) (file c.args.old_cells.now) in
    let new : Meaning = g.S.Station.meaning c.refuse.new.station in
    refused equalisation statuses sound (λ file. EqualiseLaws (settings_of (file c.args.settings.now)) (file c.args.old_cells.now)) c.args.limits.now.packets c.args.settings.now c.args.old_cells.now c.args.new_cells.now old mid new own c.requires.fresh c.in-Err.ensures.asks c.in-Err.refusal c.in-Err.ensures.reads
    c.refuse.result c.refuse.ensures.status c.refuse.ensures.text
