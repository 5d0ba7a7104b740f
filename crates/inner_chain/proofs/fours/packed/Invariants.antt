use Rattle.std.proofs.Common.{◌*◌}
use Rattle.inner_chain.specs.Fours.{ArePacked}
use Rattle.inner_chain.proofs.fours.packed.Given as goal

abbrev pub invariant-loop-group : goal.invariant-loop-group
invariant-loop-group l = ArePacked l.bits (4 * l.group) l.bytes
