use Rattle.code_paths.proofs.CutStreams.{some_given, some_ended, some_reported}
use Rattle.code_paths.proofs.uniqueness.existence.Goals as goal

pub returns-clause-given : goal.returns-clause-given
returns-clause-given c = some_given

pub returns-clause-ended : goal.returns-clause-ended
returns-clause-ended c = some_ended

pub returns-clause-reported : goal.returns-clause-reported
returns-clause-reported c = some_reported
