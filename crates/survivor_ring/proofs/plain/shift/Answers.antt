use Rattle.std.proofs.Common.{arith}
use Rattle.survivor_ring.proofs.RowSteps.{shift_end}
use Rattle.survivor_ring.proofs.plain.shift.Goals as goal

pub returns-clause-bits : goal.returns-clause-bits
returns-clause-bits c = shift_end c.args.row.now c.loop-k.row c.args.number c.args.count c.loop-k.k c.requires.number c.requires.count (omega arith) (omega arith) c.loop-k.invariant.0
