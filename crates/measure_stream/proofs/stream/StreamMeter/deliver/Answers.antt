use Rattle.std.proofs.Common.{◌+◌, ◌<◌, ◌≤◌, ◌++◌, length, sym, subst}
use Rattle.std.specs.Prelude.{All}
use Rattle.inner_decoder.specs.Events.{ats}
use Rattle.inner_decoder.specs.Running.{BranchState}
use Rattle.reception.specs.Streams.{so_far, start_of}
use Rattle.measure_stream.specs.declared.stream.StreamMeter.{StreamMeter}
use Rattle.measure_stream.specs.declared.reports.ReportCounts.{ReportCounts}
use Rattle.measure_stream.specs.Reports.{AreCounted, AreFew}
use Rattle.measure_stream.specs.Standing.{WentOn, IsReady}
use Rattle.measure_stream.proofs.Meters.{gave_on, new_reports, ready_on}
use Rattle.measure_stream.proofs.stream.StreamMeter.deliver.Goals as goal

pub returns-clause-ready : goal.returns-clause-ready
returns-clause-ready g c =
    subst IsReady (sym c.report.ensures.rest) (ready_on c.args.self.now c.give.new.self c.report.new.self.reports c.requires.has_run c.give.ensures.branch c.give.ensures.before c.give.ensures.gave)

pub returns-clause-reports : goal.returns-clause-reports
returns-clause-reports g c = λ n h. c.report.ensures.few n (subst (λ (z : ReportCounts). AreFew z n) (sym c.give.ensures.reports) h)

pub returns-clause-fed : goal.returns-clause-fed
returns-clause-fed g c = λ before pairs run s σ j from k bits reports h lies.
    let old : StreamMeter = c.args.self.now in
    let mid : StreamMeter = c.give.new.self in
    let r = run.gave (start_of s.start) k bits reports h.has_given in
    let us = ats old.branch.events in
    let between = new_reports c.events.ensures.later before.decoder old.branch.decoder (start_of s.start) k pairs bits _ reports us h.has_given r.given in
    let counted : AreCounted c.report.new.self.reports s σ j (reports ++ us) =
    subst (λ (z : BranchState). AreCounted c.report.new.self.reports s σ j (reports ++ ats z.events)) c.give.ensures.branch
    (c.report.ensures.counted s σ j (length k) (length k + length pairs) reports (subst (λ (z : ReportCounts). AreCounted z s σ j reports) (sym c.give.ensures.reports) h.counted)
    (subst (λ (z : BranchState). All (λ at. (length k < at) × (at ≤ length k + length pairs)) (ats z.events)) (sym c.give.ensures.branch) between) lies) in
    subst (λ (z : StreamMeter). WentOn so_far old z s σ j from (k ++ pairs) bits (reports ++ us)) (sym c.report.ensures.rest)
    (gave_on so_far old mid c.report.new.self.reports before s σ j from k (k ++ pairs) bits reports (reports ++ us) r c.requires.has_run.loaded c.give.ensures.gave c.give.ensures.branch c.give.ensures.known c.give.ensures.before counted h)
