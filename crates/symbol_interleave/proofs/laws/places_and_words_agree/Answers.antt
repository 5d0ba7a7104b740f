use Rattle.symbol_interleave.proofs.Marks.{places_and_words_agree}
use Rattle.symbol_interleave.proofs.laws.places_and_words_agree.Goals as goal

pub returns : goal.returns
returns c = places_and_words_agree
