use Rattle.std.proofs.Common.{arith}
use Rattle.bit_margin.proofs.Sixteen.{lowered_same}
use Rattle.bit_margin.proofs.lowered.settle.Goals as goal

pub returns-else-sums-gt-ROOM : goal.returns-else-sums-gt-ROOM
returns-else-sums-gt-ROOM c = lowered_same c.args.sums.now c.requires.close (omega arith)
