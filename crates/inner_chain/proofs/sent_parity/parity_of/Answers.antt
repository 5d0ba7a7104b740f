use Rattle.inner_chain.proofs.SentBits.{reads}
use Rattle.inner_chain.proofs.sent_parity.parity_of.Goals as goal

pub returns-clause-reads : goal.returns-clause-reads
returns-clause-reads c = λ path. reads c.args.rate path c.args.bit _ _ _ _ _ c.sent_in_period.ensures.sent c.sent_in_period-2.ensures.sent c.steps_in_period.ensures.steps c.parity_in_period-parity.ensures.sent
