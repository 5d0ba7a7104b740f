use Rattle.std.proofs.Common.{◌*◌}
use Rattle.inner_chain.specs.Fours.{ArePairs}
use Rattle.inner_chain.proofs.twos.turned_words.Given as goal

abbrev pub invariant-loop-block : goal.invariant-loop-block
invariant-loop-block g l = ArePairs l.parities (126 * l.block) l.words
