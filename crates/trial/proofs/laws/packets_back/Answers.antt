use Rattle.trial.proofs.Returning.{packets_are_counted}
use Rattle.trial.proofs.laws.packets_back.Goals as goal

pub returns : goal.returns
returns c = packets_are_counted c.growth.ensures.one_tally
