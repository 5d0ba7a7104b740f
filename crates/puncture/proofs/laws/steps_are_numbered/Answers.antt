use Rattle.puncture.proofs.Numbered.{numbered}
use Rattle.puncture.proofs.laws.steps_are_numbered.Goals as goal

pub returns : goal.returns
returns c = numbered
