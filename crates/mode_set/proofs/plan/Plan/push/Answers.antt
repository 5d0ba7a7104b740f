-- The array with one entry more.
use Rattle.std.proofs.Common.{◌∙◌, sym}
use Rattle.mode_set.proofs.Pushing.{pushed, below, positive}
use Rattle.mode_set.proofs.plan.Plan.push.Goals as goal

pub invariant_of-self : goal.invariant_of-self
invariant_of-self c =
    let p = c.args.self.now in
    record { kept = pushed p.count p.entries c.args.entry p.kept (below _ p.kept.few c.if-count-eq16.false) (positive _ c.if-entry-eq0.false) (sym c.are_before.ensures ∙ c.if-not-are_before.false) }
