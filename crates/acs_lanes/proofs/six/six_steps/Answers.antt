use Rattle.std.proofs.Common.{true≢false, sym}
use Rattle.acs_lanes.proofs.six.six_steps.Goals as goal

pub six_in-requires-clause-sums : goal.six_in-requires-clause-sums
six_in-requires-clause-sums c = λ k l. let x = c.requires.sums k l in (x.0, x.1, λ t. x.2 c.if-low.true)

pub six_in-requires-else-low-clause-sums : goal.six_in-requires-else-low-clause-sums
six_in-requires-else-low-clause-sums c = λ k l. let x = c.requires.sums k l in (x.0, x.1, λ t. absurd (true≢false (sym t)))
