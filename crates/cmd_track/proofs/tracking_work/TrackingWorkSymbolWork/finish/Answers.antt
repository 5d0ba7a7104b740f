use Rattle.std.proofs.Common.{◌≡◌, ◌-◌, ◌++◌, ℕ, List, Err, refl, ◌∙◌, ap, ap₂, subst, arith, vec_capacity}
use Rattle.mode_set.specs.declared.settings.Settings.{Settings}
use Rattle.reception.specs.Cells.{symbols}
use Rattle.station_core.specs.Meaning.{Meaning}
use Rattle.station_core.specs.declared.ports.OutPort.TheVariants as outs
use Rattle.cmd_base.specs.declared.refusal.Refusal.{Refusal}
use Rattle.cmd_base.proofs.HandedOn.{handed_on}
use Rattle.cmd_cells.specs.Work.{Does}
use Rattle.cmd_cells.specs.declared.run_error.RunError.{RunError}
use Rattle.cmd_convert.specs.Conversion.{counts_line}
use Rattle.cmd_convert.specs.Working.{written_at}
use Rattle.tracking.specs.Tracking.{Symbol}
use Rattle.law_tracking.specs.Tracked.{received}
use Rattle.cmd_track.specs.Tracked.{closing_line, ended_file, live_file}
use Rattle.cmd_track.specs.Working.{AllGive, Appends, symbols_from}
use Rattle.cmd_track.proofs.Calls.{ended, follow, stopped}
use Rattle.cmd_track.proofs.Files.{end_file}
use Rattle.cmd_track.proofs.Stood.{left_are, size_is}
use Rattle.cmd_track.proofs.tracking_work.TrackingWorkSymbolWork.finish.Goals as goal

pub write_rest-requires : goal.write_rest-requires
write_rest-requires g c κs =
    let x = c.args.self.now in
    let go = c.requires.going in
    let size = size_is g.M.Carriers.MODE x.tracker x.symbol (vec_capacity x.room) x.symbols x.tail go.bytes go.given go.stands g.M.Carriers.K g.M.Carriers.k_of in
    ((refl, tt), (c.end.ensures.ended, (omega (arith, size, go.stands.room), (c.requires.open.made outs.Cells refl, c.requires.open.opened outs.Cells refl))))

pub returns-in_err-write_rest-clause-finishes : goal.returns-in_err-write_rest-clause-finishes
returns-in_err-write_rest-clause-finishes g c = λ bytes before stood gives.
    let m : Meaning = g.S.Station.meaning c.args.station.now in
    let m' : Meaning = g.S.Station.meaning c.write_rest.new.station in
    let x = c.args.self.now in
    let s : Settings = x.tracker.settings in
    let all : List Symbol = received s bytes in
    let cells : List ℕ = symbols_from s all (symbols s bytes - 7) in
    let line : List ℕ = closing_line s bytes in
    let stop : RunError = c.in_err-write_rest.field-0.0 in
    let left = left_are g.M.Carriers.MODE x.tracker x.symbol (vec_capacity x.room) x.symbols x.tail bytes before stood c.end.new.self c.end.ensures.settings c.end.ensures.given in
    let e = c.in_err-write_rest.ensures in
    handed_on c.from_residual.result stop (Does (λ after. Unit {0}) (AllGive s bytes) (λ (r : Refusal). ⊥) before m m') c.from_residual.ensures.1
    (stopped (λ after. Unit {0}) (AllGive s bytes) (λ (r : Refusal). ⊥) before (written_at (ended_file s bytes) line) (λ port. refl) cells line (follow (live_file s bytes) cells (ended_file s bytes) line before gives (end_file s bytes)) m m' stop
    e.others e.kind (λ t. subst (λ (l : List ℕ). Appends l m.cells_out.written m'.cells_out.written (Err stop)) left (e.written t all (c.end.ensures.tracks all stood.tracks))))

pub returns-clause-finishes : goal.returns-clause-finishes
returns-clause-finishes g c = λ bytes before stood gives.
    let m : Meaning = g.S.Station.meaning c.args.station.now in
    let m' : Meaning = g.S.Station.meaning c.write_rest.new.station in
    let m'' : Meaning = g.S.Station.meaning c.write_some.new.station in
    let x = c.args.self.now in
    let s : Settings = x.tracker.settings in
    let all : List Symbol = received s bytes in
    let cells : List ℕ = symbols_from s all (symbols s bytes - 7) in
    let text : List ℕ = c.as_bytes.result.now in
    let is : text ≡ closing_line s bytes = c.as_bytes.ensures.value ∙ c.as_str.ensures.value ∙ c.line_of_counts-line.ensures ∙ ap₂ counts_line stood.whole stood.after in
    let left = left_are g.M.Carriers.MODE x.tracker x.symbol (vec_capacity x.room) x.symbols x.tail bytes before stood c.end.new.self c.end.ensures.settings c.end.ensures.given in
    let e = c.in_ok-write_rest.ensures in
    ended (λ after. Unit {0}) (AllGive s bytes) (λ (r : Refusal). ⊥) before (written_at (ended_file s bytes) text) (λ port. ap (λ (l : List ℕ). written_at (ended_file s bytes) l port) is) cells text
    (follow (live_file s bytes) cells (ended_file s bytes) text before gives (end_file s bytes)) tt m m' m'' e.others (λ t. subst (λ (l : List ℕ). m'.cells_out.written ≡ m.cells_out.written ++ l) left (e.written t all (c.end.ensures.tracks all stood.tracks)))
    c.write_some.result c.write_some.ensures.writes
