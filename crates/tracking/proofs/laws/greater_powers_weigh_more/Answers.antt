-- Quotients rise with the dividend.
use Rattle.tracking.proofs.Weights as weights
use Rattle.tracking.proofs.laws.greater_powers_weigh_more.Goals as goal

pub returns : goal.returns
returns c = weights.more
