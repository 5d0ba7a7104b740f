use Rattle.acs_lanes.proofs.FourSums.{four_sums_are}
use Rattle.acs_lanes.proofs.cost_sums.four_sums.Goals as goal

pub returns : goal.returns
returns c = four_sums_are c.args.a c.args.b c.args.c c.args.d _ _ _ _ c.word_of.ensures c.word_of-2.ensures c.word_of-3.ensures c.word_of-4.ensures
