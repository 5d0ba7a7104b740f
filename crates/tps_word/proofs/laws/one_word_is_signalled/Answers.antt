use Rattle.tps_word.proofs.Signalling.{one_signalled}
use Rattle.tps_word.proofs.laws.one_word_is_signalled.Goals as goal

pub returns : goal.returns
returns c = one_signalled c.words_are_apart.ensures
