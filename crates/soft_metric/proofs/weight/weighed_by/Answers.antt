use Rattle.soft_metric.proofs.Fifteenths.{is_set, whole_are}
use Rattle.soft_metric.proofs.weight.weighed_by.Goals as goal

pub returns-then-this-ne0 : goal.returns-then-this-ne0
returns-then-this-ne0 g c = whole_are c.args.costs c.args.weights 16 c.fits-costs.0 c.fits-weights.0 c.requires.costs (c.requires.full (is_set g.row.FULL c.if-this-ne0.true))
