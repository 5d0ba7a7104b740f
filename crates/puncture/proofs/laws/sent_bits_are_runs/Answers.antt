use Rattle.puncture.proofs.Paths.{runs}
use Rattle.puncture.proofs.laws.sent_bits_are_runs.Goals as goal

pub returns : goal.returns
returns c = runs
