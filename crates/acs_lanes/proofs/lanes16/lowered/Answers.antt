use Rattle.std.proofs.Common.{arith}
use Rattle.acs_lanes.proofs.lanes16.lowered.Goals as goal

pub lowered_if-requires-clause-room : goal.lowered_if-requires-clause-room
lowered_if-requires-clause-room c = λ t n l. omega (arith, c.is_high.ensures.low t n l)
