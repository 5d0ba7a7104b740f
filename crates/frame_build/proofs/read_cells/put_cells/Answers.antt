use Rattle.std.proofs.Common.{arith}
use Rattle.frame_build.proofs.Reading.{cell_made, three_more}
use Rattle.frame_build.proofs.read_cells.put_cells.Goals as goal

pub returns-clause-cells : goal.returns-clause-cells
returns-clause-cells c = λ are.
    three_more c.args.bytes.now c.args.cells.now c.cell_of.result c.cell_of-2.result c.cell_of-3.result c.args.k c.requires.room
    (cell_made c.args.bytes.now c.args.parts c.args.k 0 c.cell_of.result c.requires.parts (omega arith) c.cell_of.ensures.re c.cell_of.ensures.im)
    (cell_made c.args.bytes.now c.args.parts c.args.k 1 c.cell_of-2.result c.requires.parts (omega arith) c.cell_of-2.ensures.re c.cell_of-2.ensures.im)
    (cell_made c.args.bytes.now c.args.parts c.args.k 2 c.cell_of-3.result c.requires.parts (omega arith) c.cell_of-3.ensures.re c.cell_of-3.ensures.im)
    are
