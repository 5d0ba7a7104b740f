use Rattle.inner_receiver.proofs.Branching.{has_ended}
use Rattle.inner_receiver.proofs.branches.end.Goals as goal

pub returns : goal.returns
returns c = record { ended = has_ended c.args.branch.now c.finish.new.self c.requires.loaded c.finish.ensures.rest c.finish.ensures.ended c.finish.ensures.steps c.finish.ensures.amount c.finish.ensures.finished }
