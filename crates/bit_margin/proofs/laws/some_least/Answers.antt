use Rattle.bit_margin.proofs.Places.{some_are_least}
use Rattle.bit_margin.proofs.laws.some_least.Goals as goal

pub returns : goal.returns
returns c = record { law = some_are_least }
