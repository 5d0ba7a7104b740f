use Rattle.inner_receiver.proofs.Branching.{has_taken}
use Rattle.inner_receiver.proofs.branches.take_symbol.Goals as goal

pub returns-clause-hp : goal.returns-clause-hp
returns-clause-hp g c = has_taken c.args.hp.now c.run.new.hp _ c.run.ensures.hp

pub returns-clause-lp : goal.returns-clause-lp
returns-clause-lp g c = has_taken c.args.lp.now c.run.new.lp _ c.run.ensures.lp
