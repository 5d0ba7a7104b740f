use Rattle.std.proofs.Common.{[], inl, refl, sym}
use Rattle.std.proofs.lemmas.List.{append-nil}
use Rattle.station_core.specs.Meaning.{Meaning, sink_at}
use Rattle.mode_set.specs.declared.settings.Settings.{Settings}
use Rattle.cmd_cells.specs.Work.{none_written}
use Rattle.cmd_receive.specs.Feeder.{FedStands}
use Rattle.cmd_receive.specs.Working.{ReceiverStands}
use Rattle.cmd_tune.specs.Working.{IsBehindPlace}
use Rattle.tune_search.specs.Searching.{IsSearching}
use Rattle.tune_search.proofs.Held.{no_place}
use Rattle.cmd_tune.proofs.Places.{searching_stands}
use Rattle.cmd_tune.proofs.tuning_work.TuningWorkSymbolWork.begin.Goals as goal

pub returns-clause-begins : goal.returns-clause-begins
returns-clause-begins g c =
    let m : Meaning = g.S.Station.meaning c.args._station.now in
    let s : Settings = c.args.self.now.settings in
    let n = c.requires.new in
    record {
      after = none_written;
      more = none_written;
      is = ((n.2, n.3, n.4, searching_stands (λ s. IsSearching s c.args.self.now.search.tuner c.args.self.now.search.symbol) (λ b s two found bytes behind. IsBehindPlace (g.X.ModeReceiver.state b.work.receiver).settings b.work.two b.skip (ReceiverStands (FedStands g.X.ModeReceiver.state g.F.Fn b.work.feeder b.work.receiver) (g.X.ModeReceiver.state b.work.receiver).settings b.work.two) s two found bytes behind) s c.args.self.now.two [] none_written c.args.self.now.behind n.0 n.1 (no_place s) (λ port. refl)), inl (no_place s, λ port. refl));
      follows = λ port. refl;
      written = λ t port. sym (append-nil (sink_at port m).written);
    }
