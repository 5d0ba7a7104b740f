use Rattle.std.proofs.lemmas.Nat.{and_mask}
use Rattle.pilots.specs.Tables.{in_set}
use Rattle.pilots.proofs.kinds.is_in.Goals as goal

pub returns : goal.returns
unfolding in_set
returns c = rw (and_mask _ 1)
