use Rattle.bit_margin.proofs.Stand.{margins_stay}
use Rattle.bit_margin.proofs.laws.margins_stay.Goals as goal

pub returns : goal.returns
returns c = record { law = margins_stay }
