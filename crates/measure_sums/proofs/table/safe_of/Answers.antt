-- The square of the safe distance.
use Rattle.measure_sums.proofs.Sending.{safe_square}
use Rattle.measure_sums.proofs.table.safe_of.Goals as goal

pub returns : goal.returns
returns c = safe_square c.args.shape c.args.hierarchy c.new.result c.safe_distance-distance.result c.new.ensures c.safe_distance-distance.ensures.decided
