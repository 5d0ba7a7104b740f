use Rattle.soft_metric.proofs.Parts.{lower_fit, lower_are}
use Rattle.soft_metric.proofs.planes.real_parts.Goals as goal

pub overflow_cast-result : goal.overflow_cast-result
overflow_cast-result c = lower_fit c.args.cells 16

pub returns : goal.returns
returns c = lower_are c.args.cells 16 c.fits-cells.0
