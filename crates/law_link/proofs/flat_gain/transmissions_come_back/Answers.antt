-- A symbol of a transmission is one of the law.
use Rattle.law_link.proofs.Sent.{come_back, all_come_back, tolerated}
use Rattle.law_link.proofs.flat_gain.transmissions_come_back.Goals as goal

pub returns-clause-symbols : goal.returns-clause-symbols
returns-clause-symbols c = come_back c.flat_gain_is_removed.ensures.flat

pub returns-clause-transmissions : goal.returns-clause-transmissions
returns-clause-transmissions c = all_come_back c.flat_gain_is_removed.ensures.flat c.settings.ensures.mode

pub returns-clause-tolerated : goal.returns-clause-tolerated
returns-clause-tolerated c = tolerated
