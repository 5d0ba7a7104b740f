-- A direction doubles the bound at most.
use Rattle.std.proofs.Common.{◌+◌, ◌*◌, ◌^◌, arith}
use Rattle.track_cells.proofs.frequency.turn.Goals as goal

pub near-requires-clause-x : goal.near-requires-clause-x
near-requires-clause-x c =
    let w = c.times.ensures.within (2 ^ 40) (2 ^ 14) c.requires.gain c.turned_by.ensures.within in
    record { re = omega (arith, w.re); im = omega (arith, w.im) }

pub returns-clause-within : goal.returns-clause-within
returns-clause-within c = λ a h.
    let w = c.times.ensures.within a (2 ^ 14) h c.turned_by.ensures.within in
    c.near.ensures.within (2 * a) (record { re = omega (arith, w.re); im = omega (arith, w.im) })
