use Rattle.rescue.proofs.Received.{nothing_so_far}
use Rattle.rescue.proofs.laws.nothing.Goals as goal

pub returns : goal.returns
returns c = record { so_far = nothing_so_far c.nothing.ensures.given c.costs.ensures.none }
