use Rattle.survivor_ring.proofs.Words.{wide_at, wide_small}
use Rattle.survivor_ring.proofs.ring.spread_byte.Goals as goal

pub returns-clause-small : goal.returns-clause-small
returns-clause-small c = wide_small c.args.byte c.ranges.byte.fits

pub returns-clause-bits : goal.returns-clause-bits
returns-clause-bits c = λ k l. wide_at c.args.byte k c.ranges.byte.fits l
