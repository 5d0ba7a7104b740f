use Rattle.std.proofs.Common.{◌^◌, ◌≤◌, arith, subst, length}
use Rattle.code_paths.proofs.TryAll.{best_first, best_no, all_numbers}
use Rattle.code_paths.proofs.trial.search.Goals as goal

pub returns-clause-first : goal.returns-clause-first
returns-clause-first c = λ t.
    best_first c.args.start c.args.end c.args.costs.now c.loop-k.best c.loop-k.found.0 c.loop-k.found.1 c.loop-k._k
    (subst (λ z. 2 ^ z ≤ c.loop-k._k) c.requires.path (all_numbers (length c.args.path.now) c.loop-k._k (omega (arith, c.requires.path, c.requires.few)) c.loop-k-test.false))
    c.loop-k.invariant.best t

pub returns-clause-none : goal.returns-clause-none
returns-clause-none c = λ t.
    best_no c.args.start c.args.end c.args.costs.now c.loop-k.best c.loop-k.found.0 c.loop-k.found.1 c.loop-k._k
    (subst (λ z. 2 ^ z ≤ c.loop-k._k) c.requires.path (all_numbers (length c.args.path.now) c.loop-k._k (omega (arith, c.requires.path, c.requires.few)) c.loop-k-test.false))
    c.loop-k.invariant.best t
