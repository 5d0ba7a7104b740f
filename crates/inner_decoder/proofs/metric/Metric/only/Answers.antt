use Rattle.std.proofs.lemmas.Nat.{one_shl}
use Rattle.inner_decoder.proofs.Fresh.{spread_only, free_cost}
use Rattle.inner_decoder.proofs.metric.Metric.only.Goals as goal

pub invariant_of-result : goal.invariant_of-result
invariant_of-result c = spread_only c.args.state c.requires

pub returns-clause-lives : goal.returns-clause-lives
returns-clause-lives c = one_shl c.args.state 64 c.requires

pub returns-clause-cost : goal.returns-clause-cost
returns-clause-cost c = free_cost c.args.state c.requires
