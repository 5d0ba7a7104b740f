use Rattle.std.proofs.Common.{inr, Err, Ok, refl, ◌∙◌, ap, subst}
use Rattle.station_core.specs.Meaning.{Meaning}
use Rattle.cmd_base.specs.declared.refusal.Refusal.{Refusal}
use Rattle.cmd_base.specs.Report.{WritesText}
use Rattle.cmd_base.specs.Text.{refusal_status, refusal_text}
use Rattle.cmd_cells.specs.Work.{Work}
use Rattle.cmd_cells.specs.Outputs.{Names}
use Rattle.cmd_cells.specs.Runs.{RunsBehind}
use Rattle.cmd_cells.proofs.run.run_cells.Goals as goal

pub returns-in-Ok-run_behind : goal.returns-in-Ok-run_behind
returns-in-Ok-run_behind g c =
    let mid : Meaning = g.S.Station.meaning c.open_cells.new.station in
    let new : Meaning = g.S.Station.meaning c.run_behind.new.station in
    let names : Names = g.F.OutputFiles.names c.args.files.now in
    let w : Work = g.X.SymbolWork.work (g.X.SymbolWork.setup c.args.work.now) in
    let e = c.in-Ok-run_behind.ensures in
    let o = c.in-Ok.ensures.opens in
    let runs : RunsBehind w c.args.max_symbols names mid new 0 = record {
      outcome = Ok tt;
      mid = new;
      status_is = refl;
      others = e.others;
      cells_asked = e.cells_asked;
      asks = e.asks;
      cause = e.cause;
      reason = e.reason;
      later_report = e.later_report;
      ran = e.ran;
      taken = e.taken;
      tells = refl;
    } in
    record { runs = inr (o.1, subst (λ (m : Meaning). RunsBehind w c.args.max_symbols names m new 0) o.0 runs) }

pub returns-in-Err-run_behind : goal.returns-in-Err-run_behind
returns-in-Err-run_behind g c =
    let mid : Meaning = g.S.Station.meaning c.open_cells.new.station in
    let ran : Meaning = g.S.Station.meaning c.run_behind.new.station in
    let new : Meaning = g.S.Station.meaning c.refuse.new.station in
    let names : Names = g.F.OutputFiles.names c.args.files.now in
    let w : Work = g.X.SymbolWork.work (g.X.SymbolWork.setup c.args.work.now) in
    let e = c.in-Err-run_behind.ensures in
    let o = c.in-Ok.ensures.opens in
    let runs : RunsBehind w c.args.max_symbols names mid new c.refuse.result = record {
      outcome = Err c.in-Err-run_behind.stop;
      mid = ran;
      status_is = c.refuse.ensures.status ∙ ap refusal_status c.refusal.ensures;
      others = e.others;
      cells_asked = e.cells_asked;
      asks = e.asks;
      cause = e.cause;
      reason = e.reason;
      later_report = e.later_report;
      ran = e.ran;
      taken = e.taken;
      tells = subst (λ (r : Refusal). WritesText (refusal_text r) ran new) c.refusal.ensures c.refuse.ensures.text;
    } in
    record { runs = inr (o.1, subst (λ (m : Meaning). RunsBehind w c.args.max_symbols names m new c.refuse.result) o.0 runs) }
