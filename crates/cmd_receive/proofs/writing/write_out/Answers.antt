use Rattle.std.proofs.Common.{ℕ, List, ◌∙◌, ap, subst, Ok, Err}
use Rattle.station_core.specs.Meaning.{Meaning}
use Rattle.station_core.specs.declared.ports.OutPort.TheVariants as outs
use Rattle.rx_report.specs.declared.counts.Event.{Event}
use Rattle.reception.specs.Feeds.{Output}
use Rattle.cmd_cells.specs.Writing.{WritesAt}
use Rattle.cmd_cells.specs.declared.run_error.RunError.{RunError}
use Rattle.cmd_base.proofs.HandedOn.{handed_on}
use Rattle.cmd_receive.specs.Writing.{Appends, WritesLp, WritesOnly, WritesOut, event_text}
use Rattle.cmd_receive.proofs.Keeping.{hp_frame, lp_frame, writes_again}
use Rattle.cmd_receive.proofs.Lines.{failed_hp, failed_lp, wrote}
use Rattle.cmd_receive.proofs.writing.write_out.Goals as goal

pub returns-in_err-write_some-clause-written : goal.returns-in_err-write_some-clause-written
returns-in_err-write_some-clause-written g c = λ t.
    let m : Meaning = g.S.Station.meaning c.args.station.now in
    let m' : Meaning = g.S.Station.meaning c.write_some.new.station in
    let out : Output = c.args.out.now in
    let stop : RunError = c.in_err-write_some.field-0.0 in
    handed_on c.from_residual.result stop (WritesOut c.args.two out m m') c.from_residual.ensures.1
    (failed_hp c.args.two out m m' stop t (subst (λ (b : List ℕ). WritesAt outs.Hp b m m' (Err stop)) c.hp.ensures c.in_err-write_some.ensures.writes))

pub returns-in_err-write_lp-clause-written : goal.returns-in_err-write_lp-clause-written
returns-in_err-write_lp-clause-written g c = λ t.
    let m : Meaning = g.S.Station.meaning c.args.station.now in
    let m' : Meaning = g.S.Station.meaning c.write_some.new.station in
    let m'' : Meaning = g.S.Station.meaning c.write_lp.new.station in
    let out : Output = c.args.out.now in
    let stop : RunError = c.in_err-write_lp.field-0.0 in
    handed_on c.from_residual-in_err-write_lp.result stop (WritesOut c.args.two out m m'') c.from_residual-in_err-write_lp.ensures.1
    (failed_lp c.args.two out m m' m'' t (subst (λ (b : List ℕ). WritesAt outs.Hp b m m' (Ok tt)) c.hp.ensures c.in_ok-write_some.ensures.writes) stop
    (subst (λ (b : List ℕ). WritesLp c.args.two b m' m'' (Err stop)) c.lp.ensures c.in_err-write_lp.ensures.writes))

pub returns-clause-written : goal.returns-clause-written
returns-clause-written g c = λ t.
    let m : Meaning = g.S.Station.meaning c.args.station.now in
    let m' : Meaning = g.S.Station.meaning c.write_some.new.station in
    let m'' : Meaning = g.S.Station.meaning c.write_lp.new.station in
    let m''' : Meaning = g.S.Station.meaning c.write_events.new.station in
    let out : Output = c.args.out.now in
    let w : WritesAt outs.Hp out.hp m m' (Ok tt) = subst (λ (b : List ℕ). WritesAt outs.Hp b m m' (Ok tt)) c.hp.ensures c.in_ok-write_some.ensures.writes in
    let v : WritesLp c.args.two out.lp m' m'' (Ok tt) = subst (λ (b : List ℕ). WritesLp c.args.two b m' m'' (Ok tt)) c.lp.ensures c.in_ok-write_lp.ensures.writes in
    let both : WritesOnly m m'' = writes_again m m' m'' (hp_frame out.hp m m' (Ok tt) w) (lp_frame c.args.two out.lp m' m'' (Ok tt) v) in
    wrote c.args.two out m m' m'' t w m''' v c.write_events.ensures.prints.others c.write_events.result
    (subst (λ (es : List Event). Appends (event_text es) m''.report.written m'''.report.written c.write_events.result) c.events.ensures
    (c.write_events.ensures.written (ap (λ (x : Meaning). x.tells) both ∙ t)))
