use Rattle.tps_word.proofs.Sync.{counted, all_counted}
use Rattle.tps_word.proofs.nearest.sync_errors.Goals as goal

pub loop-i-preserved : goal.loop-i-preserved
loop-i-preserved c = counted c.args.bits.now c.sync_digits-digit-items.result.now c.loop-i.i c.loop-i.errors c.from-errors.result c.told-bits c.sync_digits-digit-items.ensures c.loop-i-test.true c.from-errors.ensures c.loop-i.invariant

pub returns : goal.returns
returns c = all_counted c.args.bits.now c.sync_digits-digit-items.result.now c.loop-i.i c.loop-i.errors c.sync_digits-digit-items.ensures c.loop-i.auto.i-end c.loop-i-test.false c.loop-i.invariant.0
