use Rattle.std.proofs.Common.{length}
use Rattle.rs204.proofs.steps.+solve.Given as goal

abbrev pub decreases-solve : goal.decreases-solve
decreases-solve l = length l.places.now
