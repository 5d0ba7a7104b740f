use Rattle.std.proofs.Common.{arith}
use Rattle.acs_lanes.proofs.Vectors.{first_part}
use Rattle.acs_lanes.proofs.lanes.first_half.Goals as goal

pub sixteen-low_odd-requires-clause-fit : goal.sixteen-low_odd-requires-clause-fit
sixteen-low_odd-requires-clause-fit c = λ j l. omega (arith, first_part c.args.cost.now j l, c.requires.fit j l)
