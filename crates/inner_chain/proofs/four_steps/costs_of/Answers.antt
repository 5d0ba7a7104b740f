use Rattle.std.proofs.Common.{w32}
use Rattle.std.proofs.lemmas.Simd.{below_from_Fits}
use Rattle.inner_chain.proofs.StepLanes.{one_at, zero_at}
use Rattle.inner_chain.proofs.four_steps.costs_of.Goals as goal

pub returns-clause-zero : goal.returns-clause-zero
returns-clause-zero c = zero_at 8 c.args.lanes (below_from_Fits w32 c.args.lanes c.fits-lanes.1)

pub returns-clause-one : goal.returns-clause-one
returns-clause-one c = one_at 8 c.args.lanes (below_from_Fits w32 c.args.lanes c.fits-lanes.1)
