use Rattle.std.proofs.Common.{arith}
use Rattle.acs_lanes.proofs.Laid.{laid_all}
use Rattle.acs_lanes.proofs.lanes16.widen.Goals as goal

pub returns : goal.returns
returns c = laid_all c.args.lanes.a c.args.lanes.b c.args.lanes.c c.args.lanes.d _ c.loop-n.invariant.size (λ n l. c.loop-n.invariant.is n (omega (arith, l, c.loop-n-test.false)))
