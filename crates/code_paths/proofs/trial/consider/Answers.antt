use Rattle.std.proofs.Common.{arith, ◌+◌, ◌∙◌, sym, subst₂, true, true≢false}
use Rattle.code_paths.specs.Trial.{weight, BestBelow}
use Rattle.code_paths.proofs.TryAll.{best_unfit, best_worse, best_new}
use Rattle.code_paths.proofs.trial.consider.Goals as goal

pub returns-then-not-fits-clause-best : goal.returns-then-not-fits-clause-best
returns-then-not-fits-clause-best c = best_unfit c.args.start c.args.end c.args.costs.now c.args.path.now c.args.best.now c.args.so_far.0 c.args.so_far.1 c.requires.path (λ i f. true≢false (sym (c.fits.ensures.fits.1 (i.start, f)) ∙ c.if-not-fits.true))

pub returns-then-not-is_better-clause-best : goal.returns-then-not-is_better-clause-best
returns-then-not-is_better-clause-best c = λ h.
    let n = c.is_better.ensures.no c.if-not-is_better.true in
    best_worse c.args.start c.args.end c.args.costs.now c.args.path.now c.args.best.now c.args.so_far.0 c.args.so_far.1 c.requires.path n.0 (omega (arith, n.1, c.path_cost-cost.ensures.total)) h

pub returns-clause-best : goal.returns-clause-best
returns-clause-best c = λ h.
    let f = c.fits.ensures.fits.0 c.if-not-fits.false in
    subst₂ (λ k p. BestBelow c.args.start c.args.end c.args.costs.now (weight c.args.path.now + 1) true k p) (sym c.path_cost-cost.ensures.total) (sym c.copy_from_slice.ensures.after)
    (best_new c.args.start c.args.end c.args.costs.now c.args.path.now c.args.best.now c.args.so_far.0 c.args.so_far.1 (record { long = c.requires.path; start = f.0 }) f.1 (λ t. omega (arith, c.is_better.ensures.yes c.if-not-is_better.false t, c.path_cost-cost.ensures.total)) h)
