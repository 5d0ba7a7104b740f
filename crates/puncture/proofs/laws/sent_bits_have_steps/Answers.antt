use Rattle.puncture.proofs.Stepped.{stepped}
use Rattle.puncture.proofs.laws.sent_bits_have_steps.Goals as goal

pub returns : goal.returns
returns c = stepped
