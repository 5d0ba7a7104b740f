use Rattle.std.proofs.Common.{◌*◌, ◌+◌}
use Rattle.inner_chain.specs.Fours.{AreTurned}
use Rattle.inner_chain.proofs.fours.turn_block.Given as goal

abbrev pub invariant-loop-j : goal.invariant-loop-j
invariant-loop-j l = AreTurned l.bytes (126 * l.block) l.initial.words → AreTurned l.bytes (126 * l.block + l.j) l.words
