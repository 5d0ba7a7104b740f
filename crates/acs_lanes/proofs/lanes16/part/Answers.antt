use Rattle.std.proofs.Common.{arith}
use Rattle.acs_lanes.proofs.Quarters.{part_at}
use Rattle.acs_lanes.proofs.lanes16.part.Goals as goal

pub returns-clause-is : goal.returns-clause-is
returns-clause-is c = λ k l. part_at c.args.costs.now c.args.from _ k l (omega arith)
