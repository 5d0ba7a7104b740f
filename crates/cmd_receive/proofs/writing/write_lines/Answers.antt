use Rattle.std.proofs.Common.{◌≡◌, ◌+◌, ◌++◌, ◌≤◌, suc, ℕ, List, length, take, sym, ◌∙◌, ap, subst, rules, arith, Ok, Err}
use Rattle.std.specs.List.{concat}
use Rattle.std.proofs.lemmas.List.{length-take, take_all}
use Rattle.station_core.specs.Meaning.{Meaning}
use Rattle.station_core.specs.declared.ports.OutPort.TheVariants as outs
use Rattle.cmd_cells.specs.Writing.{WritesAt}
use Rattle.cmd_base.proofs.HandedOn.{handed_on}
use Rattle.cmd_receive.specs.Writing.{Appends}
use Rattle.cmd_receive.proofs.Fronts.{line_more, line_front}
use Rattle.cmd_receive.proofs.Keeping.{Printed, line_printed, report_appends}
use Rattle.cmd_receive.proofs.writing.write_lines.Goals as goal

pub returns-in_err-write_some-in-Some-clause-written : goal.returns-in_err-write_some-in-Some-clause-written
returns-in_err-write_some-in-Some-clause-written g c = λ t.
    let m : Meaning = g.S.Station.meaning c.args.station.now in
    let m' : Meaning = g.S.Station.meaning c.loop-number.station in
    let m'' : Meaning = g.S.Station.meaning c.write_some.new.station in
    let inv = c.loop-number.invariant in
    let lines = g.C.ClosingLines.lines c.args.counts.now in
    let text : c.as_bytes.result.now ≡ c.in-Some.line.bytes = c.as_bytes.ensures.value ∙ c.as_str.ensures.value in
    let a = report_appends c.as_bytes.result.now m' m'' (Err c.in_err-write_some-in-Some.field-0.0) (ap (λ (x : Meaning). x.tells) inv.others ∙ t) c.in_err-write_some-in-Some.ensures.writes in
    let f = line_front lines c.loop-number.number c.in-Some.line.bytes m.report.written m''.report.written a.1 c.in-Some.ensures.line
    (a.2 ∙ (λ i. inv.written t i ++ take a.1 (text i))) in
    handed_on c.from_residual.result c.in_err-write_some-in-Some.field-0.0 (Appends (concat lines) m.report.written m''.report.written) c.from_residual.ensures.1 (a.0, f.0, f.1)

pub returns-in-None-clause-written : goal.returns-in-None-clause-written
returns-in-None-clause-written g c = λ t.
    let m : Meaning = g.S.Station.meaning c.args.station.now in
    let lines = g.C.ClosingLines.lines c.args.counts.now in
    let n : ℕ = c.loop-number.number in
    let all : length lines ≤ n = c.in-None.ensures.past.0 (search rules) in
    c.loop-number.invariant.written t ∙ ap (λ (ls : List (List ℕ)). m.report.written ++ concat ls) (take_all n lines all)

pub loop-number-preserved : goal.loop-number-preserved
loop-number-preserved g c =
    let m : Meaning = g.S.Station.meaning c.args.station.now in
    let m' : Meaning = g.S.Station.meaning c.loop-number.station in
    let m'' : Meaning = g.S.Station.meaning c.write_some.new.station in
    let inv = c.loop-number.invariant in
    let lines = g.C.ClosingLines.lines c.args.counts.now in
    let n : ℕ = c.loop-number.number in
    let line = c.in-Some.line.bytes in
    let text : c.as_bytes.result.now ≡ line = c.as_bytes.ensures.value ∙ c.as_str.ensures.value in
    let w : WritesAt outs.Report line m' m'' (Ok tt) = subst (λ (b : List ℕ). WritesAt outs.Report b m' m'' (Ok tt)) text c.in_ok-write_some-in-Some.ensures.writes in
    let one : n + 1 ≡ suc n = omega arith in
    let more : concat (take (n + 1) lines) ≡ concat (take n lines) ++ line = ap (λ (k : ℕ). concat (take k lines)) one ∙ line_more lines n line c.in-Some.ensures.line in
    let p : Printed m m'' (concat (take (n + 1) lines)) = subst (Printed m m'') (sym more)
    (line_printed m m' m'' (concat (take n lines)) line (inv.printing, inv.others, inv.write_faults, inv.report_faults, inv.written) w) in
    record { printing = p.0; others = p.1; write_faults = p.2; report_faults = p.3; written = p.4 }

pub returns-clause-written : goal.returns-clause-written
returns-clause-written g c = λ t.
    let m : Meaning = g.S.Station.meaning c.args.station.now in
    let lines = g.C.ClosingLines.lines c.args.counts.now in
    let n : ℕ = c.loop-number.number in
    c.loop-number.invariant.written t ∙ ap (λ (ls : List (List ℕ)). m.report.written ++ concat ls) (take_all n lines (let few : length (take 4 lines) ≡ length lines = ap length (g.C.ClosingLines.few c.args.counts.now) in let most = length-take 4 lines in omega (arith, few, most, c.loop-number-test.false)))
