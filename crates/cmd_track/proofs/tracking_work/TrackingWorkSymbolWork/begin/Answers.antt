use Rattle.std.proofs.Common.{◌≡◌, ℕ, List, [], refl, ◌∙◌, sym, ap, subst, vec_capacity}
use Rattle.mode_set.specs.declared.settings.Settings.{Settings}
use Rattle.frame_build.specs.CellFile.{header}
use Rattle.station_core.specs.Meaning.{Meaning}
use Rattle.station_core.specs.declared.ports.OutPort.TheVariants as outs
use Rattle.cmd_base.specs.declared.refusal.Refusal.{Refusal}
use Rattle.cmd_cells.specs.Work.{none_written}
use Rattle.cmd_convert.specs.Working.{written_at}
use Rattle.cmd_convert.proofs.Calls.{header_follows, wrote_cells}
use Rattle.tracking.specs.Tracking.{Symbol}
use Rattle.tracker.specs.Tracks.{Tracks}
use Rattle.cmd_track.specs.Tracked.{live_file}
use Rattle.cmd_track.specs.Working.{FirstGive, Stands}
use Rattle.cmd_track.proofs.Bytes.{no_symbols, no_tail, nothing_received}
use Rattle.cmd_track.proofs.Files.{none_live}
use Rattle.cmd_track.proofs.tracking_work.TrackingWorkSymbolWork.begin.Goals as goal

pub write_some-requires : goal.write_some-requires
write_some-requires g c κs = ((refl, tt), (c.requires.open.made outs.Cells refl, c.requires.open.opened outs.Cells refl))

pub returns-clause-begins : goal.returns-clause-begins
returns-clause-begins g c =
    let m : Meaning = g.S.Station.meaning c.args.station.now in
    let m' : Meaning = g.S.Station.meaning c.write_some.new.station in
    let x = c.args.self.now in
    let s : Settings = x.tracker.settings in
    let n = c.requires.new in
    let first : List ℕ = live_file s [] in
    let is : first ≡ c.header.result = none_live s ∙ ap header (n.mode ∙ sym c.MODE.ensures) ∙ sym c.header.ensures in
    let stands : Stands g.M.Carriers.MODE x.tracker x.symbol (vec_capacity x.room) x.symbols x.tail [] (written_at first []) = record {
      mode = n.mode;
      tracks = subst (λ (l : List Symbol). Tracks x.tracker l) (sym (nothing_received s)) n.tracks;
      going = n.going;
      none = n.none;
      room = n.room;
      whole = n.whole ∙ sym (no_symbols s);
      after = n.after ∙ sym (no_tail s);
      gives = λ port. refl;
    } in
    wrote_cells (λ given. Stands g.M.Carriers.MODE x.tracker x.symbol (vec_capacity x.room) x.symbols x.tail [] given) (FirstGive s []) (λ (r : Refusal). (left : List ℕ) → ⊥) none_written (written_at first []) stands (λ port. refl) m m' c.header.result
    (header_follows first c.header.result none_written (λ port. refl) is) c.write_some.result c.write_some.ensures.writes
