use Rattle.acs_lanes.proofs.FourSums.{words_are}
use Rattle.acs_lanes.proofs.cost_sums.words_of.Goals as goal

pub returns : goal.returns
returns c = λ x y z w. words_are x y z w c.args.sums
