use Rattle.frame_build.proofs.Reading.{parts_read}
use Rattle.frame_build.proofs.read_cells.parts_at.Goals as goal

pub returns : goal.returns
returns c = parts_read c.args.bytes.now c.sixteen.result c.parts_in.result c.args.k c.sixteen.ensures.is c.parts_in.ensures.real c.parts_in.ensures.imaginary
