use Rattle.forney.proofs.DelayLines.{back, back_bytes}
use Rattle.forney.proofs.eleven_words.Goals as goal

pub returns-clause-streams : goal.returns-clause-streams
returns-clause-streams c = back

pub returns-clause-bytes : goal.returns-clause-bytes
returns-clause-bytes c = back_bytes
