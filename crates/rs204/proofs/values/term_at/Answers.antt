use Rattle.std.proofs.Common.{refl}
use Rattle.rs204.proofs.PlaceValues.{term_held}
use Rattle.rs204.proofs.values.term_at.Goals as goal

pub returns : goal.returns
returns c = term_held c.args.coefficient c.args.exponent c.low.result c.high.result _ c.ranges.coefficient.fits c.requires c.low.ensures c.high.ensures refl
