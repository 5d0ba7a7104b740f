use Rattle.std.proofs.Common.{arith}
use Rattle.measure_known_bits.proofs.Taking.{skips_none, skips_more}
use Rattle.measure_known_bits.proofs.moving.skip_bits.Goals as goal

pub loop-k-init : goal.loop-k-init
loop-k-init g c = skips_none _ _ _

pub loop-k-preserved : goal.loop-k-preserved
loop-k-preserved g c = skips_more _ _ _ _ _ _ _ _ (omega (arith, c.requires.enough, c.loop-k-test.true)) c.loop-k.invariant c.skip_bit.ensures.settings c.skip_bit.ensures.skips c.skip_bit.ensures.other
