-- The table by its name.
use Rattle.std.proofs.Common.{refl}
use Rattle.tps_bch.specs.Syndromes.{syndromes}
use Rattle.tps_bch.proofs.syndromes.table.Goals as goal

pub returns : goal.returns
unfolding syndromes
returns c = refl
