use Rattle.acs_lanes.proofs.Looks.{roomy_low}
use Rattle.acs_lanes.proofs.lanes16.lowered_if.Goals as goal

pub returns-else-high : goal.returns-else-high
returns-else-high c = roomy_low _ (c.requires.room c.if-high.false)
