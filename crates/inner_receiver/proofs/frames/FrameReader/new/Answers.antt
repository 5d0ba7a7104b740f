use Rattle.std.proofs.Common.{refl}
use Rattle.inner_receiver.proofs.Voting.{no_frames}
use Rattle.inner_receiver.proofs.frames.FrameReader.new.Goals as goal

pub returns-clause-none : goal.returns-clause-none
returns-clause-none c = λ mode cells. no_frames mode _ cells refl refl refl
