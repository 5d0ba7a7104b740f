use Rattle.std.proofs.Common.{refl}
use Rattle.dispersal.proofs.Table_bytes.{low_bytes, first_bytes}
use Rattle.dispersal.proofs.table.sequence.Goals as goal

pub returns-clause-bytes : goal.returns-clause-bytes
unfolding low_bytes
returns-clause-bytes c = first_bytes _ refl
