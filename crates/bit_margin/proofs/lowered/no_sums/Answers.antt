use Rattle.std.proofs.Common.{refl, replicate}
use Rattle.bit_margin.proofs.Loops.{zeros_at}
use Rattle.bit_margin.proofs.lowered.no_sums.Goals as goal

pub returns : goal.returns
returns c = zeros_at (replicate 64 0) refl
