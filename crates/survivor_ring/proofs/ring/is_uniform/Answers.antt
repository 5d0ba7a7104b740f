use Rattle.std.proofs.lemmas.Bool.{eqb-true, eqb-false}
use Rattle.survivor_ring.proofs.Walks.{uniform_low, uniform_high, split_of}
use Rattle.survivor_ring.proofs.ring.is_uniform.Goals as goal

pub returns-then-set-eq0-clause-yes : goal.returns-then-set-eq0-clause-yes
returns-then-set-eq0-clause-yes c = λ t. uniform_low c.args.set (eqb-true _ _ t)

pub returns-else-set-eq0-clause-yes : goal.returns-else-set-eq0-clause-yes
returns-else-set-eq0-clause-yes c = λ t. uniform_high c.args.set (eqb-true _ _ t)

pub returns-else-set-eq0-clause-no : goal.returns-else-set-eq0-clause-no
returns-else-set-eq0-clause-no c = λ t. split_of c.args.set c.ranges.set.fits c.if-set-eq0.false (eqb-false _ _ t)
