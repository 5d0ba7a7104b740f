use Rattle.survivor_ring.proofs.Words.{folded_is}
use Rattle.survivor_ring.proofs.ring.folded.Goals as goal

pub returns : goal.returns
returns c = folded_is c.args.word
