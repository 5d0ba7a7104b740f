use Rattle.std.proofs.Common.{◌+◌, refl}
use Rattle.measure_stream.specs.declared.reports.ReportCounts.{ReportCounts}
use Rattle.measure_stream.proofs.Counting.{counted_in}
use Rattle.measure_stream.proofs.reports.ReportCounts.count.Goals as goal

pub returns-clause-counted : goal.returns-clause-counted
returns-clause-counted c = λ s σ j before after reports more h n between lies.
    let new : ReportCounts = record { all = c.args.self.now.all + c.args.number; current = c.add_apart.new.current; later = c.add_apart.new.later } in
    counted_in c.args.within c.args.self.now new s σ j before after c.args.number reports more refl c.add_apart.ensures.within c.add_apart.ensures.after h n between lies
