-- From the table of the taps.
use Rattle.law_tracking.proofs.Taps.{few}
use Rattle.law_tracking.proofs.Sizes.{turns, gains}
use Rattle.law_tracking.proofs.gains.gains_are_small.Goals as goal

pub returns-clause-turns : goal.returns-clause-turns
returns-clause-turns c = turns

pub returns-clause-sums : goal.returns-clause-sums
returns-clause-sums c = few

pub returns-clause-gains : goal.returns-clause-gains
returns-clause-gains c = gains
