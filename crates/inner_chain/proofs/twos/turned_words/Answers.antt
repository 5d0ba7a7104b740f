use Rattle.inner_chain.proofs.Pairing.{none_paired}
use Rattle.inner_chain.proofs.twos.turned_words.Goals as goal

pub loop-block-init : goal.loop-block-init
loop-block-init g c = none_paired _ _

pub loop-block-preserved : goal.loop-block-preserved
loop-block-preserved g c = c.turn_block.ensures c.loop-block.invariant
