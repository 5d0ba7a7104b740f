use Rattle.std.proofs.Common.{◌≡◌, length}
use Rattle.puncture.specs.Periods.{AreEnds}
use Rattle.puncture.proofs.periods.all_ends.Given as goal

abbrev pub invariant-loop-place : goal.invariant-loop-place
invariant-loop-place l = record { size : length l.ends ≡ 7; filled : AreEnds l.rate l.place l.ends }
