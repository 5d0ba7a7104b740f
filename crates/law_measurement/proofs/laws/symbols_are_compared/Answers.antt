use Rattle.law_measurement.proofs.Compared.{AreStepped}
use Rattle.law_measurement.proofs.Compared as compared
use Rattle.law_measurement.proofs.laws.symbols_are_compared.Goals as goal

pub returns : goal.returns
returns c = let laws : AreStepped = record { more = c.steps.ensures.next; grow = c.steps.ensures.grow; long = c.costs.ensures.long } in compared.symbols_are_compared laws
