use Rattle.soft_metric.proofs.Turning.{turned_at}
use Rattle.soft_metric.proofs.planes.turned.Goals as goal

pub returns-clause-lanes : goal.returns-clause-lanes
returns-clause-lanes c = λ k l. turned_at c.args.lanes c.args.lanes k c.fits-lanes.0 l
