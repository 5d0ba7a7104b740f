use Rattle.std.proofs.Common.{arith, ◌+◌}
use Rattle.acs_lanes.proofs.Vectors.{last_part}
use Rattle.acs_lanes.proofs.lanes.last_half.Goals as goal

pub sixteen-low_odd-requires-clause-fit : goal.sixteen-low_odd-requires-clause-fit
sixteen-low_odd-requires-clause-fit c = λ j l. omega (arith, last_part c.args.cost.now j l, c.requires.fit (32 + j) (omega arith))
