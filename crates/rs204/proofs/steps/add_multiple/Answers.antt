use Rattle.std.proofs.Common.{arith}
use Rattle.rs204.proofs.CodeSteps.{sum_end}
use Rattle.rs204.proofs.steps.add_multiple.Goals as goal

pub returns : goal.returns
returns c = let i = c.loop-j.invariant in sum_end c.args.factor c.loop-j.to c.args.to.now c.args.other.now c.loop-j.j (omega arith) i.0 i.1 i.2 i.3
