use Rattle.std.proofs.Common.{refl}
use Rattle.rs204.proofs.Dividing.{four_held}
use Rattle.rs204.proofs.division.four_steps.Goals as goal

pub returns : goal.returns
returns c = λ bytes h.
    four_held c.args.register c.args.a c.args.b c.args.c c.args.d _ _ _ c.first.result c.second.result c.third.result c.fourth.result bytes
    c.ranges.a.fits c.ranges.b.fits c.ranges.c.fits c.ranges.d.fits refl refl c.first.ensures.entry c.second.ensures.entry c.third.ensures.entry c.fourth.ensures.entry refl h
