use Rattle.trial.proofs.FedAlike.{same_fed, same_frames, same_given, same_counts}
use Rattle.trial.proofs.workers.workers.Goals as goal

pub returns-clause-fed : goal.returns-clause-fed
returns-clause-fed c = same_fed

pub returns-clause-frames : goal.returns-clause-frames
returns-clause-frames c = same_frames

pub returns-clause-given : goal.returns-clause-given
returns-clause-given c = same_given c.workers.ensures.last

pub returns-clause-counts : goal.returns-clause-counts
returns-clause-counts c = same_counts
