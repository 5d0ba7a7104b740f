use Rattle.rescue.proofs.Moving.{pushed_none, pushed_whole}
use Rattle.rescue.proofs.blocks.push_pair.Goals as goal

pub returns-then-push-clause-pushed : goal.returns-then-push-clause-pushed
returns-then-push-clause-pushed c = λ a d ms h. pushed_whole _ _ a d ms _ _ (c.take_block.ensures.pushed a _ ms (c.push.ensures.stands a d ms h))

pub returns-else-push-clause-pushed : goal.returns-else-push-clause-pushed
returns-else-push-clause-pushed c = λ a d ms h. pushed_none _ c.push.new.self a d ms _ (c.push.ensures.stands a d ms h)
