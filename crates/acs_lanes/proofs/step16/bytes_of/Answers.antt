use Rattle.acs_lanes.proofs.Sums16.{bytes_fit, bytes_same}
use Rattle.acs_lanes.proofs.step16.bytes_of.Goals as goal

pub overflow_cast-result : goal.overflow_cast-result
overflow_cast-result c = bytes_fit c.args.lanes c.fits-lanes.0 c.requires

pub returns : goal.returns
returns c = bytes_same c.args.lanes
