use Rattle.std.proofs.Common.{◌≡◌, ◌+◌, ◌++◌, ℕ, List, take, refl, sym, ◌∙◌, ap, subst, Ok, Err}
use Rattle.std.specs.List.{concat}
use Rattle.std.proofs.lemmas.List.{append-nil, take_all}
use Rattle.arrayvec.specs.ArrayString.{ArrayString}
use Rattle.station_core.specs.Meaning.{Meaning}
use Rattle.station_core.specs.declared.ports.OutPort.TheVariants as outs
use Rattle.cmd_cells.specs.Writing.{WritesAt}
use Rattle.cmd_base.proofs.HandedOn.{handed_on}
use Rattle.cmd_receive.specs.Writing.{Appends}
use Rattle.cmd_receive.proofs.Keeping.{Printed, line_printed, report_appends}
use Rattle.cmd_measure.specs.Working.{texts}
use Rattle.cmd_measure.proofs.Printing.{line_front, line_more}
use Rattle.cmd_measure.proofs.writing.write_lines.Goals as goal

pub loop-line-init : goal.loop-line-init
loop-line-init g c = record {
  printing = c.requires.printing;
  others = refl;
  write_faults = refl;
  report_faults = refl;
  written = λ t. sym (append-nil (g.S.Station.meaning c.args.station.now).report.written);
}

pub write_some-requires : goal.write_some-requires
write_some-requires g c κs = ((refl, tt), (c.loop-line.invariant.printing.created, c.loop-line.invariant.printing.opened))

pub returns-in_err-write_some-clause-written : goal.returns-in_err-write_some-clause-written
returns-in_err-write_some-clause-written g c = λ t.
    let m : Meaning = g.S.Station.meaning c.args.station.now in
    let m' : Meaning = g.S.Station.meaning c.loop-line.station in
    let m'' : Meaning = g.S.Station.meaning c.write_some.new.station in
    let inv = c.loop-line.invariant in
    let lines = c.args.lines.now in
    let text : List ℕ = c.as_bytes.result.now in
    let a = report_appends text m' m'' (Err c.in_err-write_some.field-0.0) (ap (λ (x : Meaning). x.tells) inv.others ∙ t) c.in_err-write_some.ensures.writes in
    let f = line_front lines c.loop-line.line-index _ text m.report.written m''.report.written a.1 c.loop-line-test.true (c.as_bytes.ensures.value ∙ c.as_str.ensures.value ∙ ap (λ (l : ArrayString). l.bytes) c.line-item.is)
    (a.2 ∙ (λ i. inv.written t i ++ take a.1 text)) in
    handed_on c.from_residual.result c.in_err-write_some.field-0.0 (Appends (concat (texts lines)) m.report.written m''.report.written) c.from_residual.ensures.1 (a.0, f.0, f.1)

pub loop-line-preserved : goal.loop-line-preserved
loop-line-preserved g c =
    let m : Meaning = g.S.Station.meaning c.args.station.now in
    let m' : Meaning = g.S.Station.meaning c.loop-line.station in
    let m'' : Meaning = g.S.Station.meaning c.write_some.new.station in
    let inv = c.loop-line.invariant in
    let lines = c.args.lines.now in
    let n : ℕ = c.loop-line.line-index in
    let text : List ℕ = c.as_bytes.result.now in
    let w : WritesAt outs.Report text m' m'' (Ok tt) = c.in_ok-write_some.ensures.writes in
    let more : concat (texts (take (n + 1) lines)) ≡ concat (texts (take n lines)) ++ text = line_more lines n _ text c.loop-line-test.true (c.as_bytes.ensures.value ∙ c.as_str.ensures.value ∙ ap (λ (l : ArrayString). l.bytes) c.line-item.is) in
    let p : Printed m m'' (concat (texts (take (n + 1) lines))) = subst (Printed m m'') (sym more)
    (line_printed m m' m'' (concat (texts (take n lines))) text (inv.printing, inv.others, inv.write_faults, inv.report_faults, inv.written) w) in
    record { printing = p.0; others = p.1; write_faults = p.2; report_faults = p.3; written = p.4 }

pub returns-clause-written : goal.returns-clause-written
returns-clause-written g c = λ t.
    let m : Meaning = g.S.Station.meaning c.args.station.now in
    let lines = c.args.lines.now in
    c.loop-line.invariant.written t ∙ ap (λ (ls : List ArrayString). m.report.written ++ concat (texts ls)) (take_all c.loop-line.line-index lines c.loop-line-test.false)
