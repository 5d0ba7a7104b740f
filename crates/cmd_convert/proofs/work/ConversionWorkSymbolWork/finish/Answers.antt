use Rattle.std.proofs.Common.{◌≡◌, ℕ, List, ◌∙◌, ap, ap₂}
use Rattle.station_core.specs.Meaning.{Meaning}
use Rattle.cmd_base.specs.declared.refusal.Refusal.{Refusal}
use Rattle.cmd_cells.specs.Work.{Written}
use Rattle.cmd_convert.specs.Conversion.{Conversion, closing_line, counts_line, new_file}
use Rattle.cmd_convert.specs.Working.{AllGive, written_at}
use Rattle.cmd_convert.proofs.Calls.{line_follows, wrote_line}
use Rattle.cmd_convert.proofs.work.ConversionWorkSymbolWork.finish.Goals as goal

pub returns-clause-finishes : goal.returns-clause-finishes
returns-clause-finishes g c = λ bytes before stood gives.
    let m : Meaning = g.S.Station.meaning c.args.station.now in
    let m' : Meaning = g.S.Station.meaning c.write_some.new.station in
    let v : Conversion = g.C.Converter.conversion c.args.self.now.converter in
    let text : List ℕ = c.as_bytes.result.now in
    let is : text ≡ closing_line v bytes = c.as_bytes.ensures.value ∙ c.as_str.ensures.value ∙ c.line_of_counts-line.ensures ∙ ap₂ counts_line stood.1.whole stood.1.behind in
    let after : Written = written_at (new_file v bytes) text in
    wrote_line (λ given. Unit {0}) (AllGive v bytes) (λ (r : Refusal). ⊥) before after tt
    (λ port. ap (λ (l : List ℕ). written_at (new_file v bytes) l port) is) m m' text (line_follows v bytes before text gives) c.write_some.result c.write_some.ensures.writes
