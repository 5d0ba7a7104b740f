use Rattle.symbol_interleave.proofs.Marks.{h_is_a_permutation}
use Rattle.symbol_interleave.proofs.laws.h_is_a_permutation.Goals as goal

pub returns : goal.returns
returns c = h_is_a_permutation
