use Rattle.acs_plain.proofs.Spread.{spread_alive}
use Rattle.inner_decoder.proofs.metric.Metric.best.Goals as goal

pub least-low-requires : goal.least-low-requires
least-low-requires c = record { some = spread_alive _ c.self.invariant }
