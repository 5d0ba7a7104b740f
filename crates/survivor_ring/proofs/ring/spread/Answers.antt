use Rattle.survivor_ring.proofs.Words.{spread_is}
use Rattle.survivor_ring.proofs.ring.spread.Goals as goal

pub returns : goal.returns
returns c = spread_is c.args.word _ _ _ _ c.spread_byte.ensures.bits c.spread_byte-2.ensures.bits c.spread_byte-3.ensures.bits c.spread_byte-4.ensures.bits c.spread_byte.ensures.small c.spread_byte-2.ensures.small c.spread_byte-3.ensures.small
