use Rattle.std.proofs.Common.{◌≡◌, ℕ, List, Ok, Err, ◌∙◌, ap, subst}
use Rattle.station_core.specs.Meaning.{Meaning}
use Rattle.station_core.specs.declared.ports.OutPort.TheVariants as outs
use Rattle.cmd_cells.specs.Writing.{WritesAt}
use Rattle.cmd_cells.specs.declared.run_error.RunError.{RunError}
use Rattle.cmd_base.proofs.HandedOn.{handed_on}
use Rattle.tune_search.specs.Searching.{place_line}
use Rattle.cmd_align.specs.Announcement.{announced_line, found_lines}
use Rattle.cmd_align.specs.Working.{Appends}
use Rattle.cmd_align.proofs.Calls.{at_report_only, both_lines, first_front, report_appends}
use Rattle.cmd_align.proofs.aligning_work.write_found.Goals as goal

pub returns-in_err-write_some-clause-written : goal.returns-in_err-write_some-clause-written
returns-in_err-write_some-clause-written g c = λ t.
    let m : Meaning = g.S.Station.meaning c.args.station.now in
    let m' : Meaning = g.S.Station.meaning c.write_some.new.station in
    let stop : RunError = c.in_err-write_some.field-0.0 in
    let first : List ℕ = place_line c.args.found.now in
    let text : c.as_bytes.result.now ≡ first = c.as_bytes.ensures.value ∙ c.as_str.ensures.value ∙ c.place_line-place.ensures in
    let w : WritesAt outs.Report first m m' (Err stop) = subst (λ (b : List ℕ). WritesAt outs.Report b m m' (Err stop)) text c.in_err-write_some.ensures.writes in
    handed_on c.from_residual.result stop (Appends (found_lines c.args.found.now) m.report.written m'.report.written) c.from_residual.ensures.1
    (first_front first (announced_line c.args.found.now.word) m.report.written m'.report.written stop (report_appends first m m' (Err stop) t w))

pub returns-clause-written : goal.returns-clause-written
returns-clause-written g c = λ t.
    let m : Meaning = g.S.Station.meaning c.args.station.now in
    let m' : Meaning = g.S.Station.meaning c.write_some.new.station in
    let m'' : Meaning = g.S.Station.meaning c.write_some-2.new.station in
    let first : List ℕ = place_line c.args.found.now in
    let second : List ℕ = announced_line c.args.found.now.word in
    let text : c.as_bytes.result.now ≡ first = c.as_bytes.ensures.value ∙ c.as_str.ensures.value ∙ c.place_line-place.ensures in
    let more : c.as_bytes-2.result.now ≡ second = c.as_bytes-2.ensures.value ∙ c.as_str-2.ensures.value ∙ c.announced_line-announced.ensures in
    let w : WritesAt outs.Report first m m' (Ok tt) = subst (λ (b : List ℕ). WritesAt outs.Report b m m' (Ok tt)) text c.in_ok-write_some.ensures.writes in
    let v : WritesAt outs.Report second m' m'' c.write_some-2.result = subst (λ (b : List ℕ). WritesAt outs.Report b m' m'' c.write_some-2.result) more c.write_some-2.ensures.writes in
    let tells : m'.tells ≡ m.tells = ap (λ (x : Meaning). x.tells) (at_report_only m m' first (Ok tt) w) in
    both_lines first second m.report.written m'.report.written m''.report.written c.write_some-2.result (report_appends first m m' (Ok tt) t w) (report_appends second m' m'' c.write_some-2.result (tells ∙ t) v)
