-- The bits so far turn the sign.
use Rattle.std.proofs.Common.{Bool, ap, ◌∙◌}
use Rattle.spec_words.specs.Bits.{bit, xor}
use Rattle.frame_build.proofs.Cells.{not_turned, turned_more}
use Rattle.frame_build.proofs.tps_sign.turned_by.Goals as goal

pub loop-l-init : goal.loop-l-init
loop-l-init c = not_turned c.args.word.now

pub loop-l-preserved : goal.loop-l-preserved
loop-l-preserved c = ap (λ (b : Bool). xor b (bit c.args.word.now c.loop-l.l)) c.loop-l.invariant ∙ turned_more c.args.word.now c.loop-l.l
