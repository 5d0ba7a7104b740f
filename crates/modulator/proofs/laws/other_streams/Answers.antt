use Rattle.modulator.proofs.Stepping.{other_streams}
use Rattle.modulator.proofs.laws.other_streams.Goals as goal

pub returns : goal.returns
returns c = other_streams c.sending.ensures.beginning
