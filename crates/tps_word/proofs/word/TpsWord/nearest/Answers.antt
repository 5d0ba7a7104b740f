use Rattle.tps_word.specs.Tps.{tps_word}
use Rattle.tps_word.proofs.Signalling.{found}
use Rattle.tps_word.proofs.word.TpsWord.nearest.Goals as goal

pub returns-in-Read-clause-found : goal.returns-in-Read-clause-found
returns-in-Read-clause-found c = λ t h. found c.args.bits.now c.correct.new.word c.read.result t (c.correct.ensures.nearest (tps_word t) h.is_word h.close).1 h c.read.ensures
