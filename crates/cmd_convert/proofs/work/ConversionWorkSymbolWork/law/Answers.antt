use Rattle.std.proofs.Common.{ℕ, List, [], ◌∙◌, sym, ap, arith}
use Rattle.cmd_convert.specs.Conversion.{Conversion}
use Rattle.cmd_convert.specs.Working.{written_at}
use Rattle.cmd_convert.proofs.Files.{part}
use Rattle.cmd_convert.proofs.work.ConversionWorkSymbolWork.law.Goals as goal

pub returns : goal.returns
returns g c = record {
  part = λ bytes more given within gives port.
      let v : Conversion = g.C.Converter.conversion c.args.self.now.converter in
      gives port ∙ ap (λ (cells : List ℕ). written_at cells [] port) (sym (part v (omega (arith, within)) bytes more within).2);
}
