use Rattle.inner_receiver.proofs.Branching.{begun}
use Rattle.inner_receiver.proofs.branches.begin.Goals as goal

pub returns-clause-stands : goal.returns-clause-stands
returns-clause-stands c = begun c.nothing.ensures.given _ c.args.start _ c.start_state-start.ensures.start c.in_ok-branch.ensures.going c.in_ok-branch.ensures.stands c.in_ok-branch.ensures.waiting c.in_ok-branch.ensures.reports
