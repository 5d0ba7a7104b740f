use Rattle.std.proofs.Common.{arith}
use Rattle.acs_plain.proofs.Loops.{attained_at_end}
use Rattle.acs_plain.proofs.sums.Sums.least.Goals as goal

pub returns-clause-attained : goal.returns-clause-attained
returns-clause-attained c = attained_at_end c.args.self.now c.loop-n.n c.loop-n.low (omega arith) c.loop-n.invariant c.requires.some
