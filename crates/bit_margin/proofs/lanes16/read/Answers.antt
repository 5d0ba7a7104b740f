use Rattle.std.proofs.lemmas.List.{take_all}
use Rattle.std.proofs.Common.{arith}
use Rattle.bit_margin.proofs.lanes16.read.Goals as goal

pub returns : goal.returns
returns c = take_all 16 c.args.sums.now (omega (arith, c.requires))
