-- By the next square.
use Rattle.track_arithmetic.proofs.Roots as roots
use Rattle.track_arithmetic.proofs.laws.root_is_greatest.Goals as goal

pub returns : goal.returns
returns c = roots.root_is_greatest
