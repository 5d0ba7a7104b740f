use Rattle.load_gen.proofs.Steps.{words_are_small}
use Rattle.load_gen.proofs.laws.words_are_small.Goals as goal

pub returns : goal.returns
returns c = words_are_small
