use Rattle.forney.proofs.DelayLines.{first_interleaved, first_deinterleaved}
use Rattle.forney.proofs.beginnings.Goals as goal

pub returns-clause-interleaved : goal.returns-clause-interleaved
returns-clause-interleaved c = first_interleaved

pub returns-clause-deinterleaved : goal.returns-clause-deinterleaved
returns-clause-deinterleaved c = first_deinterleaved
