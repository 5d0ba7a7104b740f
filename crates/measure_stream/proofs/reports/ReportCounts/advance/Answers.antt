use Rattle.std.proofs.Common.{refl}
use Rattle.measure_stream.specs.declared.reports.ReportCounts.{ReportCounts}
use Rattle.measure_stream.proofs.Counting.{counts_advanced}
use Rattle.measure_stream.proofs.reports.ReportCounts.advance.Goals as goal

pub returns-clause-counted : goal.returns-clause-counted
returns-clause-counted c = λ s σ j reports h last.
    let new : ReportCounts = record { all = c.args.self.now.all; current = c.args.self.now.later; later = 0 } in
    counts_advanced c.args.self.now new s σ j reports refl refl refl h last
