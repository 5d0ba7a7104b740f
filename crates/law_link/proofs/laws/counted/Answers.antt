use Rattle.law_link.proofs.Cells.{counted}
use Rattle.law_link.proofs.laws.counted.Goals as goal

pub returns : goal.returns
returns c = counted c.args.mode (record { at_0 = c.counted_at.ensures; at_1 = c.counted_at-2.ensures; at_2 = c.counted_at-3.ensures; at_3 = c.counted_at-4.ensures })
