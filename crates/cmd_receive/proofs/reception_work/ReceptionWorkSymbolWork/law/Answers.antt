use Rattle.std.proofs.Common.{ℕ, ◌∙◌, sym, ap}
use Rattle.std.specs.Prelude.{flat_map}
use Rattle.mode_set.specs.declared.settings.Settings.{Settings}
use Rattle.rx_report.specs.Text.{event_line}
use Rattle.reception.specs.Lines.{events}
use Rattle.cmd_receive.specs.Working.{written_at}
use Rattle.cmd_receive.proofs.Parts.{part_live}
use Rattle.cmd_receive.proofs.reception_work.ReceptionWorkSymbolWork.law.Goals as goal

pub returns : goal.returns
returns g c = record {
  part = λ bytes more given within is.
      let s : Settings = (g.T.ModeReceiver.state c.args.self.now.receiver).settings in (
        is.0,
        part_live c.symbols.ensures.same c.costs.ensures.same c.symbols.ensures.tps c.symbols.ensures.bits s bytes more is.0 within is.1,
        (λ port. is.2 port ∙ ap (λ (q : ℕ). written_at c.args.self.now.two is.0.packets (flat_map event_line (events s q is.0.reports)) port) (sym (c.symbols.ensures.same s bytes more within))),
      );
}
