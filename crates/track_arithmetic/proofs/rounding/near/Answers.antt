-- The size of both parts.
use Rattle.track_arithmetic.proofs.Halves.{part_below}
use Rattle.track_arithmetic.proofs.rounding.near.Goals as goal

pub returns-clause-within : goal.returns-clause-within
returns-clause-within c = λ a h.
    record {
      re = part_below c.args.x.re _ c.args.s a c.requires.some c.requires.x.re c.near_part.ensures h.re;
      im = part_below c.args.x.im _ c.args.s a c.requires.some c.requires.x.im c.near_part-2.ensures h.im;
    }
