use Rattle.frame_build.proofs.Reading.{six_more}
use Rattle.frame_build.proofs.read_cells.put_weights.Goals as goal

pub returns-clause-weights : goal.returns-clause-weights
returns-clause-weights c = six_more c.args.bytes.now c.args.weights.now c.args.six c.args.k c.requires.room c.requires.six
