-- The corrected cell and its weight.
use Rattle.cell_equal.proofs.Quotients.{zero_power, with_weight}
use Rattle.cell_equal.proofs.plain.plainly_corrected.Goals as goal

pub returns-then-n-eq0 : goal.returns-then-n-eq0
returns-then-n-eq0 c = zero_power c.args.gain c.args.cell c.args.weight _ c.power-n.ensures.is c.if-n-eq0.true

pub returns : goal.returns
returns c = with_weight c.args.gain c.args.cell c.plainly_divided-restored.result c.args.weight _ _ c.power-n.ensures.is c.if-n-eq0.false c.plainly_divided-restored.ensures c.plain_weight.ensures
