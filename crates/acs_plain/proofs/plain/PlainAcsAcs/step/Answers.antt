use Rattle.std.proofs.Common.{arith}
use Rattle.acs_plain.proofs.Loops.{step_more, step_at_end}
use Rattle.acs_plain.proofs.plain.PlainAcsAcs.step.Goals as goal

pub loop-n-preserved : goal.loop-n-preserved
loop-n-preserved c =
    let h = c.choose-choice.ensures in let u = c.with_bit-alive.ensures in let v = c.with_bit-answer.ensures in
    step_more c.args.sums.now c.args.pair c.least-low.result c.loop-n.n c.loop-n.alive c.loop-n.answer c.loop-n.cost _ _ _ _ _
    c.loop-n.invariant c.loop-n-test.true u.fits u.before u.here v.fits v.before v.here h.lives h.odd h.cost

pub returns : goal.returns
returns c = record { step = step_at_end c.args.sums.now c.args.pair c.least-low.result c.loop-n.n c.loop-n.alive c.loop-n.answer c.loop-n.cost (omega arith) c.loop-n.invariant }
