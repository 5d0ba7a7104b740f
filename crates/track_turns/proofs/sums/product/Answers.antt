-- The size of the product.
use Rattle.std.proofs.Common.{◌+◌, ◌*◌, ◌^◌, ◌≤◌, arith}
use Rattle.track_turns.proofs.sums.product.Goals as goal

pub returns-clause-within : goal.returns-clause-within
returns-clause-within c =
    let other = c.conjugate.ensures.within (2 ^ 15) c.requires.other_small in
    let w = c.times.ensures.within (2 ^ 15) (2 ^ 15) c.requires.row_small other in
    record { re = omega (arith, w.re); im = omega (arith, w.im) }
