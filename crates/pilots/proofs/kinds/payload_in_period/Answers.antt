-- The row of the table.
use Rattle.std.proofs.Common.{refl}
use Rattle.pilots.specs.Tables.{payload_places}
use Rattle.pilots.proofs.kinds.payload_in_period.Goals as goal

pub returns : goal.returns
unfolding payload_places
returns c = refl
