-- A square is at most a sum with it.
use Rattle.std.proofs.Common.{arith}
use Rattle.std.specs.Prelude.{nat_abs}
use Rattle.track_arithmetic.specs.Numbers.{power}
use Rattle.track_arithmetic.proofs.Roots.{part_at_most}
use Rattle.track_arithmetic.proofs.directions.amplitude.Goals as goal

pub returns-clause-re : goal.returns-clause-re
returns-clause-re c = part_at_most (nat_abs c.args.x.re) c.power.result (power c.args.x) c.root.result c.root.ensures.is c.power.ensures.is (omega arith)

pub returns-clause-im : goal.returns-clause-im
returns-clause-im c = part_at_most (nat_abs c.args.x.im) c.power.result (power c.args.x) c.root.result c.root.ensures.is c.power.ensures.is (omega arith)
