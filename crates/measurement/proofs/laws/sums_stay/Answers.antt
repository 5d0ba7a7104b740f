use Rattle.measurement.proofs.Staying.{sums_stay}
use Rattle.measurement.proofs.laws.sums_stay.Goals as goal

pub returns : goal.returns
returns c = record {
  law = sums_stay c.reports_grow.ensures.law c.existence.ensures.reported c.events.ensures.later c.costs.ensures.grow c.costs.ensures.long c.steps.ensures.grow c.symbols.ensures.cells c.symbols.ensures.weights c.symbols.ensures.tps
      c.symbols.ensures.bits;
}
