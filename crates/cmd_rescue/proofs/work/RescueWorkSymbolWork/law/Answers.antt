use Rattle.std.proofs.Common.{ℕ, ◌∙◌, sym, ap}
use Rattle.std.specs.Prelude.{flat_map}
use Rattle.mode_set.specs.declared.settings.Settings.{Settings}
use Rattle.rx_report.specs.Text.{event_line}
use Rattle.reception.specs.Lines.{events}
use Rattle.cmd_receive.specs.Kinds.{written_at}
use Rattle.cmd_rescue.proofs.Rescuing.{part}
use Rattle.cmd_rescue.proofs.work.RescueWorkSymbolWork.law.Goals as goal

pub returns : goal.returns
returns g c = record {
  part = λ bytes more given within is.
      let s : Settings = c.args.self.now.receiver.settings in (
        is.0,
        part c.costs.ensures.same s bytes more is.0 within is.1,
        (λ port. is.2 port ∙ ap (λ (q : ℕ). written_at c.args.self.now.two is.0.packets (flat_map event_line (events s q is.0.reports)) port) (sym (c.symbols.ensures.same s bytes more within))),
      );
}
