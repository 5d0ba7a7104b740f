use Rattle.acs_plain.proofs.Spread.{spread_alive, spread_step}
use Rattle.inner_decoder.proofs.metric.Metric.step.Goals as goal

pub step-requires-clause-some : goal.step-requires-clause-some
step-requires-clause-some g c = spread_alive _ c.self.invariant

pub invariant_of-self : goal.invariant_of-self
invariant_of-self g c = spread_step _ _ _ _ c.self.invariant c.step.ensures.step

pub returns-clause-some : goal.returns-clause-some
returns-clause-some g c = spread_alive _ (spread_step _ _ _ _ c.self.invariant c.step.ensures.step)
