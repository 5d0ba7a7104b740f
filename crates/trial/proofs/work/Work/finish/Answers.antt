use Rattle.std.proofs.Common.{◌∙◌}
use Rattle.mode_set.specs.declared.settings.Settings.{Settings}
use Rattle.reception.specs.Streams.{at_end}
use Rattle.receiver.specs.Seen.{ReceiverState}
use Rattle.trial.specs.Drawn.{trial_symbols}
use Rattle.trial.specs.declared.draws.Draws.{Draws}
use Rattle.trial.specs.State.{first_fed}
use Rattle.trial.proofs.SymbolSteps.{ended}
use Rattle.trial.proofs.work.Work.finish.Goals as goal

pub returns : goal.returns
returns g c =
    let s : Settings = c.args.settings.now in
    let w = c.args.self.now in
    let d : Draws = w.draws in
    let x : ReceiverState = c.finish.new.self.receiver in
    let b = c.requires.last in
    let h = c.finish.ensures.ended (first_fed s d.number (trial_symbols s d.number)) b.given in
    record {
      counts = ended c.packets_back.ensures s d x c.finish.new.self.hp c.finish.new.self.lp w.cells c.counts-counts.result c.stream_return.result c.lp_return.result b.hp_packets b.lp_packets
          (c.finish.ensures.settings ∙ b.receives) b.cells_are h (c.counts-counts.ensures at_end (first_fed s d.number (trial_symbols s d.number)) h.given h.stands) c.stream_return.ensures c.lp_return.ensures;
    }
