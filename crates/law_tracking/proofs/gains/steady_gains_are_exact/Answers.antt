-- All turns are forward, and the taps add up to 4096.
use Rattle.law_tracking.proofs.Steady.{steady}
use Rattle.law_tracking.proofs.gains.steady_gains_are_exact.Goals as goal

pub returns : goal.returns
returns c = steady
