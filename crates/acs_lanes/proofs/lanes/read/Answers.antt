use Rattle.std.proofs.lemmas.List.{take_all}
use Rattle.std.proofs.Common.{arith}
use Rattle.acs_lanes.proofs.lanes.read.Goals as goal

pub returns : goal.returns
returns c = take_all 16 c.args.costs.now (omega (arith, c.requires))
