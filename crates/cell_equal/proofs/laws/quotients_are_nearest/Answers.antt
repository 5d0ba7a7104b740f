-- From the definition of rounding down.
use Rattle.cell_equal.proofs.Nearest.{nearest_is}
use Rattle.cell_equal.proofs.laws.quotients_are_nearest.Goals as goal

pub returns : goal.returns
returns c = nearest_is
