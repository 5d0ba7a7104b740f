use Rattle.tps_word.proofs.Sync.{far_from_one}
use Rattle.tps_word.proofs.nearest.may_signal.Goals as goal

pub returns-else-errors-le-CORRECTED : goal.returns-else-errors-le-CORRECTED
returns-else-errors-le-CORRECTED c = λ t h. far_from_one c.args.bits.now t c.sync_errors-errors.result c.told-bits c.sync_errors-errors.ensures c.if-errors-le-CORRECTED.false h
