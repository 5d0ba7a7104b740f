use Rattle.std.proofs.Common.{◌*◌}
use Rattle.inner_chain.specs.Fours.{AreTurned}
use Rattle.inner_chain.proofs.fours.turned.Given as goal

abbrev pub invariant-loop-block : goal.invariant-loop-block
invariant-loop-block l = AreTurned l.bytes (126 * l.block) l.words
