use Rattle.std.proofs.Common.{rules}
use Rattle.pilots.specs.Tables.{tps_set}
use Rattle.pilots.proofs.kinds.tps.Goals as goal

pub returns : goal.returns
unfolding tps_set
returns c = search rules
