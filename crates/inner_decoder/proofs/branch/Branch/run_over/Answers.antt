use Rattle.std.proofs.Common.{sym, subst}
use Rattle.inner_decoder.specs.Running.{BranchState, RanSymbol}
use Rattle.inner_decoder.specs.Tracking.{Stands}
use Rattle.inner_decoder.specs.Events.{ats}
use Rattle.inner_decoder.proofs.Runs.{symbol_ran}
use Rattle.inner_decoder.proofs.branch.Branch.run_over.Goals as goal

pub returns-clause-ran : goal.returns-clause-ran
returns-clause-ran g c = λ a s b h.
    let h1 = subst (λ (z : BranchState). Stands 2048 z.decoder a s b) (sym c.self.view_is) h in
    let r = symbol_ran 2048 _ _ a s b _ _ _ _ _ (c.run.ensures.ran a s b h1) c.give.ensures.gave in
    subst (λ (z : BranchState). RanSymbol 2048 c.give.new.self a s b c.args.pairs.now z.wait c.give.new.to (ats c.run.new.events.items)) c.self.view_is r
