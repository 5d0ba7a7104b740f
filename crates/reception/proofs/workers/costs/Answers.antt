use Rattle.reception.proofs.Alike.{same_costs, same_events, same_streams}
use Rattle.reception.proofs.workers.costs.Goals as goal

pub returns-clause-streams : goal.returns-clause-streams
returns-clause-streams c = same_streams

pub returns-clause-costs : goal.returns-clause-costs
returns-clause-costs c = same_costs

pub returns-clause-events : goal.returns-clause-events
returns-clause-events c = same_events
