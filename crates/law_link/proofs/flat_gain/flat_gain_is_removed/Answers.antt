-- From the pilots around each carrier.
use Rattle.law_link.proofs.Gains.{removed, weakened}
use Rattle.law_link.proofs.flat_gain.flat_gain_is_removed.Goals as goal

pub returns-clause-flat : goal.returns-clause-flat
returns-clause-flat c = weakened (removed c.pilots_are_around.ensures)

pub returns-clause-strong : goal.returns-clause-strong
returns-clause-strong c = removed c.pilots_are_around.ensures
