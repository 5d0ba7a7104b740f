use Rattle.pilots.proofs.References.{begins_with_ones, rule_on}
use Rattle.pilots.proofs.laws.reference_recurs.Goals as goal

pub returns-clause-ones : goal.returns-clause-ones
returns-clause-ones c = begins_with_ones c.args.k

pub returns-clause-rule : goal.returns-clause-rule
returns-clause-rule c = rule_on c.args.k
