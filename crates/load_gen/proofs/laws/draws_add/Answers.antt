use Rattle.load_gen.proofs.Steps.{draws_add}
use Rattle.load_gen.proofs.laws.draws_add.Goals as goal

pub returns : goal.returns
returns c = draws_add
