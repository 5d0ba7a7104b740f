-- A word has one reading.
use Rattle.tps_word.proofs.Signalling.{back}
use Rattle.tps_word.proofs.laws.words_are_read_back.Goals as goal

pub returns : goal.returns
returns c = back
