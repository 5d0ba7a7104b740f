use Rattle.std.proofs.Common.{◌+◌, ◌-◌, ◌*◌, sym, arith}
use Rattle.cmd_convert.proofs.OldCells.{no_cells, put_one}
use Rattle.cmd_convert.proofs.old_cells.upgrade_cells.Goals as goal

pub loop-k-init : goal.loop-k-init
loop-k-init c = record { long = c.requires.long; begins = sym (no_cells c.args.old_cells.now) }

pub loop-k-preserved : goal.loop-k-preserved
loop-k-preserved c =
    let put = put_one c.args.old_cells.now c.loop-k.room c.put_cell.new.new_cell c.loop-k.k c.args.count _ (5 * c.loop-k.k + 5 - 5 * c.loop-k.k) c.loop-k-test.true c.requires.cells c.loop-k.invariant.long
    (omega arith) (omega arith) c.loop-k.invariant.begins c.put_cell.ensures in
    record { long = put.0; begins = put.1 }
