use Rattle.std.proofs.Common.{ℕ, Bool, List, [], ◌++◌, refl, ◌∙◌, sym, ap}
use Rattle.std.proofs.lemmas.List.{append-nil}
use Rattle.station_core.specs.Meaning.{Meaning, sink_at}
use Rattle.mode_set.specs.declared.settings.Settings.{Settings}
use Rattle.rescue.specs.Streams.{nothing}
use Rattle.cmd_receive.specs.Kinds.{live_of}
use Rattle.cmd_receive.proofs.Commands.{nothing_written}
use Rattle.cmd_rescue.specs.Working.{rescuing}
use Rattle.cmd_rescue.proofs.work.RescueWorkSymbolWork.begin.Goals as goal

pub returns-clause-begins : goal.returns-clause-begins
returns-clause-begins g c =
    let m : Meaning = g.S.Station.meaning c.args._station.now in
    let s : Settings = c.args.self.now.receiver.settings in
    let two : Bool = c.args.self.now.two in
    let live = c.nothing.ensures.so_far s in
    record {
      after = live_of rescuing s two [] nothing;
      more = live_of rescuing s two [] nothing;
      is = ((nothing, c.requires.new, live, (λ port. refl)), (nothing, live, (λ port. refl)));
      follows = λ port. refl;
      written = λ t port. sym (append-nil (sink_at port m).written) ∙ ap (λ (l : List ℕ). (sink_at port m).written ++ l) (sym (nothing_written c.events.ensures.none nothing.packets nothing.reports (λ σ. refl) s two port));
    }
