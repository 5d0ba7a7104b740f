-- The table is computed.
use Rattle.std.proofs.Common.{refl}
use Rattle.spec_words.specs.Words.{numbers}
use Rattle.track_cells.proofs.turns.cosines.Goals as goal

pub returns : goal.returns
unfolding numbers
returns c = refl
