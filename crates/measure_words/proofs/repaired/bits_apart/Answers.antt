use Rattle.measure_words.proofs.Bits.{apart_none, apart_more}
use Rattle.measure_words.proofs.repaired.bits_apart.Goals as goal

pub loop-p-init : goal.loop-p-init
loop-p-init c = apart_none _ _

pub loop-p-preserved : goal.loop-p-preserved
loop-p-preserved c = apart_more _ _ _ _ _ c.loop-p.invariant c.bits_at.ensures.is c.bits_at.ensures.few
