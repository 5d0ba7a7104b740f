-- The rows of the tables.
use Rattle.std.proofs.Common.{refl}
use Rattle.pilots.specs.Tables.{payload_set, below_words}
use Rattle.pilots.proofs.kinds.payload.Goals as goal

pub returns-clause-set : goal.returns-clause-set
unfolding payload_set
returns-clause-set c = refl

pub returns-clause-below : goal.returns-clause-below
unfolding below_words
returns-clause-below c = refl
