use Rattle.std.proofs.Common.{◌≡◌, ℕ, List, [], ◌++◌, None, refl, ◌∙◌, sym}
use Rattle.std.proofs.lemmas.List.{append-nil}
use Rattle.station_core.specs.Meaning.{Meaning}
use Rattle.station_core.specs.declared.ports.OutPort.TheVariants as outs
use Rattle.frame_build.specs.CellFile.{header}
use Rattle.mode_set.specs.declared.settings.Settings.{Settings}
use Rattle.cmd_base.specs.declared.refusal.Refusal.{Refusal}
use Rattle.cmd_cells.specs.Work.{none_written}
use Rattle.cmd_convert.specs.Working.{written_at}
use Rattle.cmd_convert.proofs.Calls.{header_follows, wrote_cells}
use Rattle.tune_search.specs.Searching.{IsSearching}
use Rattle.tune_search.proofs.Held.{no_place}
use Rattle.cmd_align.specs.Working.{AligningStands, FirstGive, RefusesAligning}
use Rattle.cmd_align.proofs.Places.{searching_stands}
use Rattle.cmd_align.proofs.aligning_work.AligningWorkSymbolWork.begin.Goals as goal

pub write_some-requires : goal.write_some-requires
write_some-requires g c κs = ((refl, tt), (c.requires.open.made outs.Cells refl, c.requires.open.opened outs.Cells refl))

pub returns-clause-begins : goal.returns-clause-begins
returns-clause-begins g c =
    let m : Meaning = g.S.Station.meaning c.args.station.now in
    let m' : Meaning = g.S.Station.meaning c.write_some.new.station in
    let s : Settings = c.args.self.now.settings in
    let searching = λ (s : Settings). IsSearching s c.args.self.now.search.tuner c.args.self.now.search.symbol in
    let n = c.requires.new in
    let first : List ℕ = header s.mode ++ [] in
    wrote_cells (λ given. (s.mode ≡ g.M.Carriers.MODE) × AligningStands searching s c.args.self.now.copying [] given) (FirstGive s []) (λ (r : Refusal). (left : List ℕ) → RefusesAligning s [] left none_written r) none_written (written_at first [])
    (n.2, searching_stands searching s [] (written_at first []) c.args.self.now.copying n.0 n.1 (no_place s) (λ port. refl)) (None, no_place s, (λ port. refl)) m m' c.header.result
    (header_follows first c.header.result none_written (λ port. refl) (append-nil (header s.mode) ∙ sym c.header.ensures)) c.write_some.result c.write_some.ensures.writes
