use Rattle.std.proofs.Common.{refl, ◌∙◌, ap, get_or}
use Rattle.std.specs.Prelude.{bit_xor}
use Rattle.rs204.proofs.CodeSteps.{value_next}
use Rattle.rs204.proofs.plain.value.Goals as goal

pub loop-byte-preserved : goal.loop-byte-preserved
loop-byte-preserved c = ap (λ z. bit_xor z (get_or c.args.word.now c.loop-byte.byte-index 0)) c.mul.ensures ∙ value_next c.args.x c.loop-byte.byte-index c.loop-byte.sum c.args.word.now (get_or c.args.word.now c.loop-byte.byte-index 0) c.loop-byte-test.true refl c.loop-byte.invariant
