use Rattle.inner_decoder.proofs.Fresh.{spread_any, any_lives, free_cost}
use Rattle.inner_decoder.proofs.metric.Metric.any.Goals as goal

pub invariant_of-result : goal.invariant_of-result
invariant_of-result c = spread_any

pub returns-clause-lives : goal.returns-clause-lives
returns-clause-lives c = any_lives

pub returns-clause-cost : goal.returns-clause-cost
returns-clause-cost c = free_cost
