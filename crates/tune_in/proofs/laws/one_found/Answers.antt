use Rattle.tune_in.proofs.OneFrame.{one}
use Rattle.tune_in.proofs.laws.one_found.Goals as goal

pub returns : goal.returns
returns c = one c.one_word_is_signalled.ensures
