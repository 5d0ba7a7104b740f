use Rattle.std.proofs.Common.{ℕ, List, [], refl, ◌∙◌, sym}
use Rattle.station_core.specs.Meaning.{Meaning}
use Rattle.station_core.specs.declared.ports.OutPort.TheVariants as outs
use Rattle.cmd_base.specs.declared.refusal.Refusal.{Refusal}
use Rattle.cmd_cells.specs.Work.{none_written}
use Rattle.cmd_convert.specs.Conversion.{Conversion, new_file}
use Rattle.cmd_convert.specs.Working.{Counts, FirstGive, written_at}
use Rattle.cmd_convert.proofs.Files.{none}
use Rattle.cmd_convert.proofs.Calls.{header_follows, wrote_cells}
use Rattle.cmd_convert.proofs.work.ConversionWorkSymbolWork.begin.Goals as goal

pub write_some-requires : goal.write_some-requires
write_some-requires g c κs = ((refl, tt), (c.requires.open.made outs.Cells refl, c.requires.open.opened outs.Cells refl))

pub returns-clause-begins : goal.returns-clause-begins
returns-clause-begins g c =
    let m : Meaning = g.S.Station.meaning c.args.station.now in
    let m' : Meaning = g.S.Station.meaning c.write_some.new.station in
    let v : Conversion = g.C.Converter.conversion c.args.self.now.converter in
    let ready = g.C.Converter.is_ready c.args.self.now.converter in
    let n = none v c.requires.new.1.some in
    let after = written_at (new_file v []) [] in
    wrote_cells (λ given. ready × Counts v c.args.self.now.symbols c.args.self.now.tail [] given) (FirstGive v []) (λ (r : Refusal). (left : List ℕ) → ⊥) none_written after
    (c.requires.new.0, record { some = c.requires.new.1.some; whole = c.requires.new.1.whole ∙ sym n.0; behind = c.requires.new.1.behind ∙ sym n.1; gives = λ port. refl }) (λ port. refl) m m' c.header.result
    (header_follows (new_file v []) c.header.result none_written (λ port. refl) (n.2 ∙ sym c.header.ensures)) c.write_some.result c.write_some.ensures.writes
