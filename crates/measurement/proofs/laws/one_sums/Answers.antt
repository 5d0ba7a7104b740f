use Rattle.measurement.proofs.Once.{one_sums}
use Rattle.measurement.proofs.laws.one_sums.Goals as goal

pub returns : goal.returns
returns c = record { law = one_sums c.given_once.ensures.law c.ended_once.ensures.law c.reports_once.ensures.law c.growth.ensures.one_near }
