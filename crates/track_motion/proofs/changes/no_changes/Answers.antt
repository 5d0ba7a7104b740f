-- Zeros are low.
use Rattle.std.proofs.Common.{arith}
use Rattle.track_motion.proofs.Keeps.{at_zeros}
use Rattle.track_motion.proofs.changes.no_changes.Goals as goal

pub returns : goal.returns
returns c = λ k lt. let e = at_zeros 16 k in omega (arith, e)
