use Rattle.std.proofs.Common.{ℕ, List, [], ◌++◌, refl, ◌∙◌, sym, ap}
use Rattle.std.proofs.lemmas.List.{append-nil}
use Rattle.station_core.specs.Meaning.{Meaning, sink_at}
use Rattle.mode_set.specs.declared.settings.Settings.{Settings}
use Rattle.cmd_measure.specs.Working.{printed}
use Rattle.cmd_measure.proofs.Printing.{nothing_printed}
use Rattle.cmd_measure.proofs.Whole.{no_lines_yet}
use Rattle.cmd_measure.proofs.measuring_work.MeasuringWorkSymbolWork.begin.Goals as goal

pub returns-clause-begins : goal.returns-clause-begins
returns-clause-begins g c =
    let m : Meaning = g.S.Station.meaning c.args._station.now in
    let s : Settings = (g.T.ModeMeasurer.state c.args.self.now.measurer).settings in
    record {
      after = printed [];
      more = printed [];
      is = (([], c.requires.new, (λ port. refl)), ([], no_lines_yet s, (λ port. refl)));
      follows = λ port. refl;
      written = λ t port. sym (append-nil (sink_at port m).written) ∙ ap (λ (l : List ℕ). (sink_at port m).written ++ l) (sym (nothing_printed port));
    }
