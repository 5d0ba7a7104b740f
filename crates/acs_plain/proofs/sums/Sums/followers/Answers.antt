use Rattle.acs_plain.proofs.Loops.{all_follow, followers_more}
use Rattle.acs_plain.proofs.sums.Sums.followers.Goals as goal

pub returns-then-self : goal.returns-then-self
returns-then-self c = record { lives = all_follow c.args.self.now c.if-self.true }

pub loop-n-preserved : goal.loop-n-preserved
loop-n-preserved c = (c.with_bit-word.ensures.fits, followers_more c.args.self.now c.loop-n.n c.loop-n.word c.with_bit-word.result c.is_reached.result c.loop-n.invariant.1 c.with_bit-word.ensures.before c.with_bit-word.ensures.here c.is_reached.ensures)
