-- One label more has its point.
use Rattle.std.proofs.Common.{arith}
use Rattle.measure_sums.proofs.Sending.{sent_more}
use Rattle.measure_sums.proofs.tables.sent_of.Goals as goal

pub loop-label-preserved : goal.loop-label-preserved
loop-label-preserved c = sent_more c.args.shape c.args.hierarchy _ _ _ (omega (arith, c.label_count-label-end.ensures.few)) c.loop-label.invariant c.sent.ensures.is c.sent.ensures.few
