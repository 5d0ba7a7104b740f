use Rattle.dispersal.proofs.Back.{back}
use Rattle.dispersal.proofs.laws.undo_gives_back.Goals as goal

pub returns : goal.returns
returns c = back
