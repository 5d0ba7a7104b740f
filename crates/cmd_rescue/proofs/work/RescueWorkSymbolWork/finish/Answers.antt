use Rattle.std.proofs.Common.{◌≡◌, Bool, refl, ◌∙◌, ap, subst}
use Rattle.std.specs.List.{concat}
use Rattle.station_core.specs.Meaning.{Meaning}
use Rattle.station_core.specs.declared.ports.OutPort.TheVariants as outs
use Rattle.cmd_cells.specs.declared.run_error.RunError.{RunError}
use Rattle.cmd_cells.specs.Work.{Finishes}
use Rattle.cmd_base.proofs.HandedOn.{handed_on}
use Rattle.mode_set.specs.declared.settings.Settings.{Settings}
use Rattle.reception.specs.Streams.{at_end}
use Rattle.reception.specs.Feeds.{Output}
use Rattle.rescue.specs.ReportText.{closing_lines}
use Rattle.rescue.specs.declared.counts.Counts.{Counts}
use Rattle.rescue.specs.Lines.{counts_of}
use Rattle.cmd_receive.specs.Kinds.{work_of}
use Rattle.cmd_receive.specs.Writing.{Appends}
use Rattle.cmd_receive.proofs.Ends.{ended, rest_failed}
use Rattle.cmd_rescue.specs.Working.{rescuing}
use Rattle.cmd_rescue.proofs.work.RescueWorkSymbolWork.finish.Goals as goal

pub write_out-requires : goal.write_out-requires
write_out-requires g c κs =
    let o = c.requires.open in (
      (refl, tt),
      record {
        hp = o.made outs.Hp refl;
        hp_open = o.opened outs.Hp refl;
        lp = o.made outs.Lp;
        lp_open = o.opened outs.Lp;
        report = record { created = o.report; opened = o.report_open };
      },
    )

pub returns-clause-finishes : goal.returns-clause-finishes
returns-clause-finishes g c = λ bytes before stood gives.
    let m : Meaning = g.S.Station.meaning c.args.station.now in
    let m' : Meaning = g.S.Station.meaning c.write_out.new.station in
    let m'' : Meaning = g.S.Station.meaning c.write_lines.new.station in
    let s : Settings = c.args.self.now.receiver.settings in
    let two : Bool = c.args.self.now.two in
    let out : Output = c.finish.new.out in
    let f = c.finish.ensures.finished bytes stood.0 stood.1 in
    let ends = c.receptions.ensures.ends s bytes stood.0 f.after stood.2 f.final in
    let counts : c.counts-counts.result ≡ counts_of s bytes f.after = c.counts-counts.ensures at_end bytes f.after f.ends ∙ ap (λ (x : Settings). counts_of x bytes f.after) c.finish.ensures.settings in
    ended rescuing s two bytes stood.0 before stood.3 out f.after ends.reports f.final f.packets f.no_event m m' c.in_ok-write_out.ensures.others m'' c.write_lines.ensures.others c.in_ok-write_out.ensures.written c.write_lines.result
    (λ t. subst (λ (x : Counts). Appends (concat (closing_lines x)) m'.report.written m''.report.written c.write_lines.result) counts (c.write_lines.ensures.written t))
    c.write_lines.ensures.kind

pub returns-in_err-write_out-clause-finishes : goal.returns-in_err-write_out-clause-finishes
returns-in_err-write_out-clause-finishes g c = λ bytes before stood gives.
    let m : Meaning = g.S.Station.meaning c.args.station.now in
    let m' : Meaning = g.S.Station.meaning c.write_out.new.station in
    let s : Settings = c.args.self.now.receiver.settings in
    let two : Bool = c.args.self.now.two in
    let out : Output = c.finish.new.out in
    let f = c.finish.ensures.finished bytes stood.0 stood.1 in
    let ends = c.receptions.ensures.ends s bytes stood.0 f.after stood.2 f.final in
    let stop : RunError = c.in_err-write_out.field-0.0 in
    handed_on c.from_residual.result stop (Finishes (work_of rescuing s two) bytes before m m') c.from_residual.ensures.1
    (rest_failed rescuing s two bytes stood.0 before stood.3 out f.after ends.reports f.final f.packets f.no_event m m' c.in_err-write_out.ensures.others stop c.in_err-write_out.ensures.kind c.in_err-write_out.ensures.written)
