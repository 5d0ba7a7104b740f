use Rattle.std.proofs.Common.{subst}
use Rattle.acs_plain.specs.Steps.{SomeAlive}
use Rattle.acs_plain.proofs.Spread.{spread_alive}
use Rattle.inner_decoder.proofs.metric.Metric.alive.Goals as goal

pub returns-clause-some : goal.returns-clause-some
returns-clause-some c = subst SomeAlive c.self.view_is (spread_alive _ c.self.invariant)
