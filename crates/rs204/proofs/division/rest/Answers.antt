use Rattle.std.proofs.Common.{refl, arith, ◌*◌}
use Rattle.rs204.proofs.Dividing.{divides_first, divides_next, divides_last}
use Rattle.rs204.proofs.division.rest.Goals as goal

pub loop-i-init : goal.loop-i-init
loop-i-init c = divides_first c.args.word.now c.told-word

pub loop-i-preserved : goal.loop-i-preserved
loop-i-preserved c = divides_next c.loop-i.register c.four_steps-register.result c.args.word.now c.loop-i.i _ c.told-word c.loop-i-test.true refl c.loop-i.invariant c.four_steps-register.ensures

pub returns : goal.returns
returns c = divides_last c.loop-i.register c.args.word.now (4 * c.loop-i.i) c.told-word (omega arith) c.loop-i.invariant
