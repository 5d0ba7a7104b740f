use Rattle.std.proofs.Common.{rules}
use Rattle.pilots.specs.Tables.{reference_words}
use Rattle.pilots.proofs.sequence.bits.Goals as goal

pub returns : goal.returns
unfolding reference_words
returns c = search rules
