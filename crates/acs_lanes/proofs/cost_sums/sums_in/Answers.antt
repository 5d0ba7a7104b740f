use Rattle.acs_lanes.proofs.FourSums.{sums_repeated}
use Rattle.acs_lanes.proofs.cost_sums.sums_in.Goals as goal

pub returns : goal.returns
returns c = λ pair. sums_repeated pair c.args.word
