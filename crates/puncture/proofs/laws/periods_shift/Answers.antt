use Rattle.puncture.proofs.Paths.{shifted}
use Rattle.puncture.proofs.laws.periods_shift.Goals as goal

pub returns : goal.returns
returns c = shifted
