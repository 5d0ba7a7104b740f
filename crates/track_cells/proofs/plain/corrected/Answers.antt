-- The corrected cell and its weight.
use Rattle.track_cells.proofs.Corrected.{zero_power, with_weight}
use Rattle.track_cells.proofs.plain.corrected.Goals as goal

pub returns-then-n-eq0 : goal.returns-then-n-eq0
returns-then-n-eq0 c = zero_power c.args.full c.args.gain c.args.cell c.args.old _ c.power-n.ensures.is c.if-n-eq0.true

pub returns : goal.returns
returns c = with_weight c.args.full c.args.gain c.args.cell c.divided.result c.args.old _ _ _ c.power-n.ensures.is c.if-n-eq0.false c.divided.ensures c.divided_weight.ensures.is c.shared_weight.ensures
