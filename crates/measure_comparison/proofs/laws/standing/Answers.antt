use Rattle.measure_comparison.proofs.Standing.{more_known}
use Rattle.measure_comparison.proofs.laws.standing.Goals as goal

pub returns-clause-more : goal.returns-clause-more
returns-clause-more c = more_known c.passing.ensures.more
