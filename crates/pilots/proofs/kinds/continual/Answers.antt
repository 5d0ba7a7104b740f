use Rattle.std.proofs.Common.{rules}
use Rattle.pilots.specs.Tables.{continual_set}
use Rattle.pilots.proofs.kinds.continual.Goals as goal

pub returns : goal.returns
unfolding continual_set
returns c = search rules
