use Rattle.std.proofs.Common.{◌*◌}
use Rattle.rs204.proofs.Dividing.{Divides}
use Rattle.rs204.proofs.division.rest.Given as goal

abbrev pub invariant-loop-i : goal.invariant-loop-i
invariant-loop-i l = Divides l.register l.word (4 * l.i)
