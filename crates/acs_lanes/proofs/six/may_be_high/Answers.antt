use Rattle.acs_lanes.proofs.Looks.{first_low, ways_low}
use Rattle.acs_lanes.proofs.six.may_be_high.Goals as goal

pub returns-then-phase-eq5 : goal.returns-then-phase-eq5
returns-then-phase-eq5 c = λ t. first_low c.args.low_first c.args.low_last c.fits-low_first.0 (c.reaches.ensures.low t) c.args.phase c.if-phase-eq5.true

pub returns-else-phase-eq5 : goal.returns-else-phase-eq5
returns-else-phase-eq5 c = λ t. ways_low c.args.low_first c.args.low_last c.higher.result c.fits-low_first.0 c.higher.ensures.is (c.reaches-else-phase-eq5.ensures.low t) c.args.phase c.requires
