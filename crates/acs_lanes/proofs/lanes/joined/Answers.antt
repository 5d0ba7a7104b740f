use Rattle.std.proofs.Common.{arith}
use Rattle.acs_lanes.proofs.LaneLaws.{set_low_word, joined_high, joined_small}
use Rattle.acs_lanes.proofs.lanes.joined.Goals as goal

pub returns-clause-low : goal.returns-clause-low
returns-clause-low c = λ k l. set_low_word 16 c.args.first c.args.last k l (omega arith)

pub returns-clause-high : goal.returns-clause-high
returns-clause-high c = λ k l. joined_high c.args.first c.args.last k c.requires.first l

pub returns-clause-small : goal.returns-clause-small
returns-clause-small c = joined_small c.args.first c.args.last c.requires.first c.requires.last
