use Rattle.std.proofs.Common.{sym, arith, subst}
use Rattle.reception.specs.Streams.{at_end, start_of}
use Rattle.measure_stream.specs.declared.stream.StreamMeter.{StreamMeter}
use Rattle.measure_stream.specs.declared.reports.ReportCounts.{ReportCounts}
use Rattle.measure_stream.specs.Reports.{AreCounted}
use Rattle.measure_stream.proofs.Meters.{gave_on, end_wait}
use Rattle.measure_stream.proofs.stream.StreamMeter.finish.Goals as goal

pub give-requires-clause-known : goal.give-requires-clause-known
give-requires-clause-known g c = omega (arith, c.requires.known, end_wait _ _ c.end.ensures.ended c.requires.ready.wait c.requires.ready.giving)

pub returns-clause-finished : goal.returns-clause-finished
returns-clause-finished g c = λ s σ j from k bits reports h.
    let old : StreamMeter = c.args.self.now in
    let ran : StreamMeter = record old { branch = c.end.new.branch } in
    let w = gave_on at_end ran c.give.new.self c.give.new.self.reports old.branch s σ j from k k bits reports reports (c.end.ensures.ended.gave (start_of s.start) k bits reports h.has_given) c.end.ensures.ended.loaded c.give.ensures.gave
    c.give.ensures.branch c.give.ensures.known c.give.ensures.before (subst (λ (z : ReportCounts). AreCounted z s σ j reports) (sym c.give.ensures.reports) h.counted) h in
    record { more = w.more; known = w.known; stands = w.stands }
