use Rattle.std.proofs.Common.{◌≡◌, ◌+◌, ◌*◌, ◌++◌, ◌<◌, ℕ, List, [], length, refl, ◌∙◌, sym, ap, arith, vec_capacity}
use Rattle.mode_set.specs.declared.modes.Mode.{Mode}
use Rattle.mode_set.specs.declared.settings.Settings.{Settings}
use Rattle.reception.specs.Cells.{symbol_length}
use Rattle.station_core.specs.Meaning.{Meaning}
use Rattle.station_core.specs.declared.ports.OutPort.TheVariants as outs
use Rattle.cmd_base.specs.declared.refusal.Refusal.{Refusal}
use Rattle.cmd_convert.specs.Working.{written_at}
use Rattle.cmd_convert.proofs.Calls.{nothing_wrote, wrote_cells}
use Rattle.cmd_track.specs.Tracked.{live_file}
use Rattle.cmd_track.specs.Working.{FirstGive, Stands}
use Rattle.cmd_track.proofs.Bytes.{Cuts}
use Rattle.cmd_track.proofs.Calls.{follow}
use Rattle.cmd_track.proofs.Files.{part_live}
use Rattle.cmd_track.proofs.Stood.{count_is, part_stands, size_is, symbol_follows, symbol_stands}
use Rattle.cmd_track.proofs.tracking_work.TrackingWorkSymbolWork.take.Goals as goal

pub returns-then-piece-K-clause-takes : goal.returns-then-piece-K-clause-takes
returns-then-piece-K-clause-takes g c = λ bytes before stood gives none fits.
    let m : Meaning = g.S.Station.meaning c.args.station.now in
    let mode : Mode = g.M.Carriers.MODE in
    let x = c.args.self.now in
    let s : Settings = x.tracker.settings in
    let piece : List ℕ = c.args.piece.now in
    let e = c.symbols.ensures in
    let cuts : Cuts = record { same = e.same; next = e.next; tail = e.tail; ended = e.ended; cells = e.cells; weights = e.weights } in
    let size = size_is mode x.tracker x.symbol (vec_capacity x.room) x.symbols x.tail bytes before stood g.M.Carriers.K g.M.Carriers.k_of in
    let short : length piece < symbol_length s = omega (arith, fits, size, c.if-piece-K.true, c.K.ensures) in
    nothing_wrote (λ given. Stands mode x.tracker x.symbol (vec_capacity x.room) x.symbols (length piece) (bytes ++ piece) given × FirstGive s (bytes ++ piece) given) before (written_at (live_file s (bytes ++ piece)) []) m
    (part_stands mode x.tracker x.symbol (vec_capacity x.room) x.symbols x.tail bytes before stood cuts piece none short, (λ port. refl))
    (λ port. ap (λ (cells : List ℕ). written_at cells [] port) (part_live cuts s bytes piece (omega (arith, none, short))) ∙ sym (gives port))

pub take_symbol-requires-clause-few : goal.take_symbol-requires-clause-few
take_symbol-requires-clause-few g c =
    let x = c.args.self.now in
    let go = c.requires.going in
    let count = count_is g.M.Carriers.MODE x.tracker x.symbol (vec_capacity x.room) x.symbols x.tail go.bytes go.given go.stands in
    omega (arith, count, go.few)

pub write_some-requires : goal.write_some-requires
write_some-requires g c κs = ((refl, tt), (c.requires.open.made outs.Cells refl, c.requires.open.opened outs.Cells refl))

pub returns-clause-takes : goal.returns-clause-takes
returns-clause-takes g c = λ bytes before stood gives none fits.
    let m : Meaning = g.S.Station.meaning c.args.station.now in
    let m' : Meaning = g.S.Station.meaning c.write_some.new.station in
    let mode : Mode = g.M.Carriers.MODE in
    let k : ℕ = g.M.Carriers.K in
    let x = c.args.self.now in
    let s : Settings = x.tracker.settings in
    let piece : List ℕ = c.args.piece.now in
    let e = c.symbols.ensures in
    let cuts : Cuts = record { same = e.same; next = e.next; tail = e.tail; ended = e.ended; cells = e.cells; weights = e.weights } in
    let law = c.live_symbols_stay.ensures in
    let new = c.take_symbol.new in
    let t = c.take_symbol.ensures in
    let whole : length piece ≡ 5 * k = c.if-piece-K.false ∙ ap (λ (n : ℕ). 5 * n) c.K.ensures in
    let first : List ℕ = live_file s (bytes ++ piece) in
    let room : List ℕ = c.deref.result.now in
    let gave = symbol_follows mode x.tracker x.symbol (vec_capacity x.room) x.symbols x.tail bytes before stood law cuts k g.M.Carriers.k_of piece none whole room (λ all h. c.deref.ensures.value ∙ t.gives all h) in
    wrote_cells (λ given. Stands mode new.tracker new.symbol (vec_capacity new.room) (x.symbols + 1) x.tail (bytes ++ piece) given) (FirstGive s (bytes ++ piece)) (λ (r : Refusal). (left : List ℕ) → ⊥) before (written_at first [])
    (symbol_stands mode x.tracker x.symbol (vec_capacity x.room) x.symbols x.tail bytes before stood law cuts k g.M.Carriers.k_of piece none whole new.tracker new.symbol (vec_capacity new.room) t.settings t.going t.empty t.capacity t.tracks) (λ port. refl) m m' room
    (follow (live_file s bytes) room first [] before gives gave) c.write_some.result c.write_some.ensures.writes
