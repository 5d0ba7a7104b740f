use Rattle.std.proofs.Common.{arith}
use Rattle.frame_build.proofs.Reading.{part_at}
use Rattle.frame_build.proofs.read_cells.sixteen.Goals as goal

pub returns-clause-is : goal.returns-clause-is
returns-clause-is c = λ j l. part_at c.args.bytes.now c.args.first _ j l (omega arith)
