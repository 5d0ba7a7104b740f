-- From the definitions.
use Rattle.pilots.proofs.Around.{around}
use Rattle.pilots.proofs.laws.pilots_are_around.Goals as goal

pub returns : goal.returns
returns c = around
