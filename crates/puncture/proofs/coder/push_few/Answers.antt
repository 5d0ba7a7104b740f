use Rattle.std.proofs.Common.{◌∙◌, arith}
use Rattle.puncture.proofs.Spelling.{bit_moved}
use Rattle.puncture.proofs.coder.push_few.Goals as goal

pub loop-left-preserved : goal.loop-left-preserved
loop-left-preserved g c = record {
  bits = rw (c.push_bit.ensures.bits, c.bit_of.ensures) (bit_moved c.loop-left.to c.args.word c.loop-left.left (omega arith) ∙ c.loop-left.invariant.bits);
  amount = omega arith;
  few = omega arith;
}
