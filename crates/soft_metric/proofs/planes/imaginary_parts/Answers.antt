use Rattle.soft_metric.proofs.Parts.{upper_fit, upper_are}
use Rattle.soft_metric.proofs.planes.imaginary_parts.Goals as goal

pub overflow_cast-result : goal.overflow_cast-result
overflow_cast-result c = upper_fit c.args.cells 16 c.fits-cells.1

pub returns : goal.returns
returns c = upper_are c.args.cells 16 c.fits-cells.0
