use Rattle.survivor_ring.proofs.Words.{before_are}
use Rattle.survivor_ring.proofs.ring.ancestors.Goals as goal

pub returns : goal.returns
returns c = before_are c.args.set c.args.word c.folded.result c.folded-2.result c.spread.result c.spread-2.result c.ranges.word.fits c.folded.ensures c.folded-2.ensures c.spread.ensures c.spread-2.ensures
