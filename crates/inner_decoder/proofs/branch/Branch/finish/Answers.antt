use Rattle.std.proofs.Common.{sym, subst}
use Rattle.inner_decoder.specs.Running.{BranchState}
use Rattle.inner_decoder.specs.Tracking.{Stands, Finished}
use Rattle.inner_decoder.proofs.branch.Branch.finish.Goals as goal

pub returns-clause-finished : goal.returns-clause-finished
returns-clause-finished g c = λ a s b h.
    subst (λ (z : BranchState). Finished 2048 c.finish.new.self a s b z.wait c.finish.new.to) c.self.view_is
    (c.finish.ensures.finished a s b (subst (λ (z : BranchState). Stands 2048 z.decoder a s b) (sym c.self.view_is) h))
