-- The parts are those of one constellation.
use Rattle.measure_sums.proofs.Sending.{table_is}
use Rattle.measure_sums.proofs.table.PointTable.new.Goals as goal

pub invariant_of-result : goal.invariant_of-result
invariant_of-result c =
    table_is c.args.shape c.args.hierarchy c.new.result c.sent_of.result c.bits_of.result c.bits_of-2.result c.safe_of.result c.new.ensures c.sent_of.ensures.sent c.bits_of.ensures.is c.bits_of.ensures.few c.bits_of-2.ensures.is
    c.bits_of-2.ensures.few c.safe_of.ensures
