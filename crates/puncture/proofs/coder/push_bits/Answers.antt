use Rattle.std.proofs.Common.{◌∙◌, arith}
use Rattle.puncture.proofs.Spelling.{byte_moved}
use Rattle.puncture.proofs.coder.push_bits.Goals as goal

pub loop-left-preserved : goal.loop-left-preserved
loop-left-preserved g c = record {
  bits = rw c.push_byte.ensures.bits (byte_moved c.loop-left.to c.args.bits.word c.loop-left.left (omega arith) ∙ c.loop-left.invariant.bits);
  amount = omega arith;
  few = omega arith;
}
