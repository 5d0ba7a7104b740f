use Rattle.std.proofs.Common.{◌+◌, ◌≤◌, length, arith}
use Rattle.soft_metric.proofs.Writing.{cells_more, one_cell, then_written}
use Rattle.soft_metric.proofs.planes.write_cells.Goals as goal

pub loop-q-preserved : goal.loop-q-preserved
loop-q-preserved g c =
    let fits : c.loop-q.q + 16 ≤ length c.args.cells.now = omega (arith, c.loop-q-test.true) in
    record {
      writes = then_written c.args.axes.shape c.args.axes.hierarchy c.args.cells.now c.args.weights.now _ _ _ c.loop-q.invariant.writes c.write_sixteen.ensures.writes;
      here = cells_more c.args.axes.shape c.args.axes.hierarchy c.args.cells.now c.args.weights.now c.loop-q.q 16 _ _ fits c.write_sixteen.ensures.writes c.loop-q.invariant.here c.write_sixteen.ensures.here;
      within = fits;
    }

pub loop-q-2-preserved : goal.loop-q-2-preserved
loop-q-2-preserved g c =
    let fits : c.loop-q-2.q + 1 ≤ length c.args.cells.now = omega (arith, c.loop-q-2-test.true) in
    record {
      writes = then_written c.args.axes.shape c.args.axes.hierarchy c.args.cells.now c.args.weights.now _ _ _ c.loop-q-2.invariant.writes c.write_one.ensures.writes;
      here = cells_more c.args.axes.shape c.args.axes.hierarchy c.args.cells.now c.args.weights.now c.loop-q-2.q 1 _ _ fits c.write_one.ensures.writes c.loop-q-2.invariant.here
          (one_cell c.args.axes.shape c.args.axes.hierarchy c.args.cells.now c.args.weights.now c.loop-q-2.q _ c.write_one.ensures.here);
      within = fits;
    }
