use Rattle.inner_chain.proofs.Quads.{none_turned}
use Rattle.inner_chain.proofs.fours.turned.Goals as goal

pub loop-block-init : goal.loop-block-init
loop-block-init c = none_turned _ _

pub loop-block-preserved : goal.loop-block-preserved
loop-block-preserved c = c.turn_block.ensures c.loop-block.invariant
