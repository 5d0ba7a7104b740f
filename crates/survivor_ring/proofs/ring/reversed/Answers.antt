use Rattle.survivor_ring.proofs.Eights.{turned_at}
use Rattle.survivor_ring.proofs.ring.reversed.Goals as goal

pub returns : goal.returns
returns c = λ k l. turned_at c.args.byte k c.ranges.byte.fits l
